-- is_near: goals that the search finds slowly.
use Rattle.std.proofs.Common.{arith}
use Rattle.std.proofs.lemmas.Grind.{common_steps}
use Rattle.trap_color.proofs.widths.is_near.Goals as goal

pub overflow_mul-result-3 : goal.overflow_mul-result-3
overflow_mul-result-3 c = grind (arith, common_steps)

pub overflow_mul-reach-2 : goal.overflow_mul-reach-2
overflow_mul-reach-2 c = grind (arith, common_steps)
