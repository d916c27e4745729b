-- read_begun: reads a plate from the file that is begun.
use Rattle.std.proofs.lemmas.Result.{err_from_is_err_and}
use Rattle.std.proofs.lemmas.Grind.{common_steps}
use Rattle.std.proofs.Common.{arith, ◌*◌, ◌+◌, ◌∙◌, List, ap, ℕ}
use Rattle.pgm_plates.specs.declared.plate.Plate.{Plate}
use Rattle.pgm_plates.specs.Readers.{samples_from}
use Rattle.pgm_plates.proofs.Counts.{refused_count}
use Rattle.pgm_plates.proofs.Wholes.{raster_refused, end_refused, plate_read}
use Rattle.pgm_plates.proofs.reading.read_begun.Goals as goal

pub returns-in_err-values-clause-answer : goal.returns-in_err-values-clause-answer
returns-in_err-values-clause-answer g c =
    let p = err_from_is_err_and c.from_residual-in_err-values.result c.from_residual-in_err-values.ensures.1 in
    rw (p.1, p.2) (
    raster_refused c.args.bounds (g.T.Tray.state c.args.tray.now) (g.T.Tray.state c.read_header.new.tray) (g.T.Tray.state c.read_raster.new.tray)
    c.in_ok-header.header c.in_ok-header.start c.in_err-values.field-0.0 c.in_ok-header.ensures.answer c.in_err-values.ensures.answer
    )

pub returns-in_err-values-clause-count : goal.returns-in_err-values-clause-count
returns-in_err-values-clause-count g c =
    let p = err_from_is_err_and c.from_residual-in_err-values.result c.from_residual-in_err-values.ensures.1 in
    rw (p.1, p.2) (refused_count (List ℕ) Plate (g.T.Tray.state c.args.tray.now) (g.T.Tray.state c.read_header.new.tray) (g.T.Tray.state c.read_raster.new.tray) c.in_err-values.field-0.0 c.in_ok-header.ensures.count c.in_err-values.ensures.count)

pub returns-in-Ok-clause-count : goal.returns-in-Ok-clause-count
returns-in-Ok-clause-count g c = c.in-Ok.ensures.count ∙ c.in_ok-values.ensures.count ∙ c.in_ok-header.ensures.count

pub returns-in-Err-clause-count : goal.returns-in-Err-clause-count
returns-in-Err-clause-count g c =
    refused_count (Unit {0}) Plate (g.T.Tray.state c.args.tray.now) (g.T.Tray.state c.read_raster.new.tray) (g.T.Tray.state c.end_of_file.new.tray) c.in-Err.error
    (c.in_ok-values.ensures.count ∙ c.in_ok-header.ensures.count) c.in-Err.ensures.count

pub returns-in-Ok-clause-answer : goal.returns-in-Ok-clause-answer
returns-in-Ok-clause-answer g c =
    let samples = samples_from c.args.form c.in_ok-header.header.maxval c.in_ok-values.values in
    plate_read c.args.bounds (g.T.Tray.state c.args.tray.now) (g.T.Tray.state c.read_header.new.tray) (g.T.Tray.state c.read_raster.new.tray) (g.T.Tray.state c.end_of_file.new.tray)
    c.in_ok-header.header c.in_ok-header.start samples c.in_ok-header.ensures.answer c.in_ok-values.ensures.answer c.in-Ok.ensures.answer

pub returns-in-Err-clause-answer : goal.returns-in-Err-clause-answer
returns-in-Err-clause-answer g c =
    let header = c.in_ok-header.header in
    let samples = samples_from c.args.form header.maxval c.in_ok-values.values in
    end_refused c.args.bounds (g.T.Tray.state c.args.tray.now) (g.T.Tray.state c.read_header.new.tray) (g.T.Tray.state c.read_raster.new.tray) (g.T.Tray.state c.end_of_file.new.tray)
    header c.in_ok-header.start (c.in_ok-header.start + header.width * header.height * c.sample_size.result) samples c.in-Err.error c.in_ok-header.ensures.answer c.in_ok-values.ensures.answer
    (ap (λ (n : ℕ). c.in_ok-header.start + header.width * header.height * n) c.sample_size.ensures) c.in-Err.ensures.answer

pub overflow_add-start : goal.overflow_add-start
overflow_add-start g c = grind (arith, common_steps)

pub overflow_mul-count-2 : goal.overflow_mul-count-2
overflow_mul-count-2 g c = grind (arith, common_steps)

pub returns-in-Ok-clause-below : goal.returns-in-Ok-clause-below
returns-in-Ok-clause-below g c = grind (arith, common_steps)
