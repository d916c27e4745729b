-- raise_arms: goals that the search finds slowly.
use Rattle.std.proofs.lemmas.Grind.{common_steps}
use Rattle.std.proofs.Common.{arith}
use Rattle.row_values.proofs.arms.raise_arms.Goals as goal

pub loop-x2-preserved : goal.loop-x2-preserved
loop-x2-preserved c = grind (arith, common_steps)

pub returns-clause-whole : goal.returns-clause-whole
returns-clause-whole c = grind (arith, common_steps)
