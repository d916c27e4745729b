-- plain_until: goals that the search finds slowly.
use Rattle.std.proofs.lemmas.Grind.{common_steps}
use Rattle.std.proofs.Common.{arith}
use Rattle.edge_rule.proofs.plain.plain_until.Goals as goal

pub returns-else-below-x-clause-here : goal.returns-else-below-x-clause-here
returns-else-below-x-clause-here c = grind (arith, common_steps)

pub returns-else-below-x-clause-below : goal.returns-else-below-x-clause-below
returns-else-below-x-clause-below c = grind (arith, common_steps)
