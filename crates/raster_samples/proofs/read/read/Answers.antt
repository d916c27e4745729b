-- read: one row after the other.
use Rattle.std.proofs.Common.{◌≡◌, length, arith, rules}
use Rattle.std.proofs.lemmas.Grind.{common_steps}
use Rattle.raster_samples.proofs.RectLemmas.{row_more, rows_before}
use Rattle.raster_samples.proofs.read.read.Goals as goal

pub loop-y-preserved : goal.loop-y-preserved
loop-y-preserved c =
    let long : length c.read_row.new.row ≡ c.args.rect.width = first_of (grind (arith, common_steps), search rules) in
    let room = rows_before c.args.rect.height c.loop-y.y c.args.rect.width (omega arith) in
    row_more c.args.raster.now c.args.bytes.now c.args.rect c.loop-y.y c.loop-y.tints c.read_row.new.row _ (omega (arith, room, long)) long c.loop-y.invariant c.in_default.ensures
