-- scaled_tint: goals that the search finds slowly.
use Rattle.std.proofs.Common.{arith}
use Rattle.std.proofs.lemmas.Grind.{common_steps}
use Rattle.trap_color.proofs.widths.scaled_tint.Goals as goal

pub overflow_mul-value : goal.overflow_mul-value
overflow_mul-value c = grind (arith, common_steps)

pub overflow_mul-value-2 : goal.overflow_mul-value-2
overflow_mul-value-2 c = grind (arith, common_steps)

pub overflow_cast-result : goal.overflow_cast-result
overflow_cast-result c = grind (arith, common_steps)

pub overflow_cast-result-2 : goal.overflow_cast-result-2
overflow_cast-result-2 c = grind (arith, common_steps)
