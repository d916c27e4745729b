-- read_row: a tint is above the maxval where its number is.
use Rattle.std.proofs.Common.{arith}
use Rattle.raster_samples.proofs.RectLemmas.{row_answer}
use Rattle.raster_samples.proofs.read.read_row.Goals as goal

pub returns : goal.returns
returns c =
    row_answer c.args.raster.now c.args.bytes.now c.args.rect c.args.y c.copy_row.new.row c.first_above.result (omega arith) c.copy_row.ensures c.first_above.ensures
