-- excess: goals that the search finds slowly.
use Rattle.std.proofs.lemmas.Grind.{common_steps}
use Rattle.std.proofs.Common.{arith}
use Rattle.page_model.proofs.page.excess.Goals as goal

pub overflow_mul-samples-2 : goal.overflow_mul-samples-2
overflow_mul-samples-2 c = grind (arith, common_steps)
