-- is_large_sheet: goals that the search finds slowly.
use Rattle.std.proofs.Common.{arith}
use Rattle.std.proofs.lemmas.Grind.{common_steps}
use Rattle.sheet_geometry.proofs.judging.is_large_sheet.Goals as goal

pub overflow_mul-result-else-height-gt-MOST_SIDE : goal.overflow_mul-result-else-height-gt-MOST_SIDE
overflow_mul-result-else-height-gt-MOST_SIDE c = grind (arith, common_steps)
