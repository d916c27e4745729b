-- reach_of: goals that the search finds slowly.
use Rattle.std.proofs.Common.{arith}
use Rattle.std.proofs.lemmas.Grind.{common_steps}
use Rattle.page_model.proofs.reach.reach_of.Goals as goal

pub overflow_cast-result : goal.overflow_cast-result
overflow_cast-result c = grind (arith, common_steps)

pub overflow_mul-width-2 : goal.overflow_mul-width-2
overflow_mul-width-2 c = grind (arith, common_steps)
