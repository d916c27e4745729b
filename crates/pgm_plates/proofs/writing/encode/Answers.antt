-- encode: encodes some values of an image, of which there is at least one, and says how many bytes
-- they take.
use Rattle.std.proofs.Common.{sym, ◌∙◌}
use Rattle.pgm_plates.specs.Planes.{samples_in}
use Rattle.pgm_plates.proofs.Rasters.{narrow_raster}
use Rattle.pgm_plates.proofs.writing.encode.Goals as goal

pub returns-then-image-lt256-clause-spelled : goal.returns-then-image-lt256-clause-spelled
returns-then-image-lt256-clause-spelled c = c.encode_narrow.ensures.spelled ∙ sym (narrow_raster c.args.image.now.maxval (samples_in c.args.image.now c.args.values.now) c.if-image-lt256.true)
