-- Sheet::bare_row: notes for each sample of a row of plate c 2 where it has no ink, else 1.
use Rattle.std.proofs.Common.{arith}
use Rattle.std.proofs.lemmas.Grind.{common_steps}
use Rattle.misregister.proofs.sheet.Sheet.outline_row.Goals as goal

pub loop-x-preserved : goal.loop-x-preserved
loop-x-preserved g c = grind (arith, common_steps)
