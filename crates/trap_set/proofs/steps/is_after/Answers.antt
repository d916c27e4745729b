-- is_after: goals that the search finds slowly.
use Rattle.std.proofs.lemmas.Grind.{common_steps}
use Rattle.std.proofs.Common.{arith}
use Rattle.trap_set.proofs.steps.is_after.Goals as goal

pub returns-then-place-numbers : goal.returns-then-place-numbers
returns-then-place-numbers c = grind (arith, common_steps)

pub returns-then-place-numbers-2 : goal.returns-then-place-numbers-2
returns-then-place-numbers-2 c = grind (arith, common_steps)

pub returns-else-place-numbers-2 : goal.returns-else-place-numbers-2
returns-else-place-numbers-2 c = grind (arith, common_steps)
