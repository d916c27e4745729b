-- write: one row after the other.
use Rattle.std.proofs.Common.{◌≡◌, ℕ, ◌+◌, ◌*◌, length, arith, subst}
use Rattle.std.proofs.lemmas.List.Edits.{get_or-between}
use Rattle.raster_samples.specs.Writes.{AreWritten}
use Rattle.raster_samples.proofs.RectLemmas.{row_put}
use Rattle.raster_samples.proofs.write.write.Goals as goal

pub loop-y-preserved : goal.loop-y-preserved
loop-y-preserved c =
    row_put c.args.raster.now c.args.rect (length c.args.bytes.now) c.loop-y.y c.args.tints.now _ c.args.bytes.now c.loop-y.bytes c.write_row.new.bytes c.requires.raster c.requires.rect c.requires.apart (omega arith) (λ x lx. get_or-between c.args.tints.now (c.loop-y.y * c.args.rect.width) (c.loop-y.y * c.args.rect.width + c.args.rect.width) x 0 (omega (arith, lx))) c.loop-y.invariant c.write_row.ensures

pub returns : goal.returns
returns c =
    let whole : c.loop-y.y ≡ c.args.rect.height = omega arith in
    subst (λ (n : ℕ). AreWritten c.args.raster.now c.args.tints.now c.args.rect n c.args.bytes.now c.loop-y.bytes) whole c.loop-y.invariant
