-- read_image: reads one image from what is left of the file, and says how many bytes it has.
use Rattle.std.proofs.lemmas.Grind.{common_steps}
use Rattle.std.proofs.Common.{arith, ◌*◌, ◌+◌, ap, ℕ}
use Rattle.pgm_plates.specs.declared.bounds.Bounds.TheVariants.{Page}
use Rattle.pgm_plates.specs.Readers.{samples_from}
use Rattle.pgm_plates.proofs.Sequences.{image_read}
use Rattle.pgm_plates.proofs.Wholes.{raster_refused}
use Rattle.pgm_plates.proofs.pages.read_image.Goals as goal

pub returns-in-Ok-read_raster-clause-answer : goal.returns-in-Ok-read_raster-clause-answer
returns-in-Ok-read_raster-clause-answer g c =
    let header = c.in-Ok.read.0 in
    image_read (g.T.Tray.state c.args.tray.now) (g.T.Tray.state c.read_header.new.tray) (g.T.Tray.state c.read_raster.new.tray)
    header c.in-Ok.read.1 (c.in-Ok.read.1 + header.width * header.height * c.sample_size.result) (samples_from c.args.form header.maxval c.in-Ok-read_raster.values) c.in-Ok.ensures.answer c.in-Ok-read_raster.ensures.answer
    (ap (λ (n : ℕ). c.in-Ok.read.1 + header.width * header.height * n) c.sample_size.ensures)

pub returns-in-Err-read_raster-clause-answer : goal.returns-in-Err-read_raster-clause-answer
returns-in-Err-read_raster-clause-answer g c =
    raster_refused Page (g.T.Tray.state c.args.tray.now) (g.T.Tray.state c.read_header.new.tray) (g.T.Tray.state c.read_raster.new.tray)
    c.in-Ok.read.0 c.in-Ok.read.1 c.in-Err-read_raster.error c.in-Ok.ensures.answer c.in-Err-read_raster.ensures.answer

pub overflow_add-size : goal.overflow_add-size
overflow_add-size g c = grind (arith, common_steps)

pub overflow_mul-size : goal.overflow_mul-size
overflow_mul-size g c = grind (arith, common_steps)

pub returns-in-Err-Fault-Truncated-eq0-clause-answer : goal.returns-in-Err-Fault-Truncated-eq0-clause-answer
returns-in-Err-Fault-Truncated-eq0-clause-answer g c = grind (arith, common_steps)

pub returns-in-Ok-read_raster-clause-small : goal.returns-in-Ok-read_raster-clause-small
returns-in-Ok-read_raster-clause-small g c = grind (arith, common_steps)

pub returns-in-Ok-read_raster-clause-below : goal.returns-in-Ok-read_raster-clause-below
returns-in-Ok-read_raster-clause-below g c = grind (arith, common_steps)
