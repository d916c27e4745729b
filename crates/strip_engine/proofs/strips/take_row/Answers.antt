-- take_row: goals that the search finds slowly.
use Rattle.std.proofs.lemmas.Grind.{common_steps}
use Rattle.std.proofs.Common.{arith}
use Rattle.strip_engine.proofs.strips.take_row.Goals as goal

pub returns-else-counted : goal.returns-else-counted
returns-else-counted c = grind (arith, common_steps)

pub returns-then-counted : goal.returns-then-counted
returns-then-counted c = grind (arith, common_steps)
