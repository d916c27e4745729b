-- read_images: reads on to the image of that number.
use Rattle.std.proofs.lemmas.Grind.{common_steps}
use Rattle.std.proofs.Common.{ℕ, Option, Ok, Err, IfSome, sym, subst, ◌∙◌, rules, arith}
use Rattle.pgm_plates.specs.declared.plate.Plate.{Plate}
use Rattle.pgm_plates.specs.declared.plate.PlateError.{PlateError}
use Rattle.pgm_plates.specs.declared.values.Values.{Values}
use Rattle.pgm_plates.specs.Images.{PageAnswers, ReadsImage}
use Rattle.pgm_plates.specs.Planes.{map_ok, map_some}
use Rattle.pgm_plates.specs.Reading.{KeepsCount}
use Rattle.pgm_plates.specs.Readers.{Fit, image_from, plate_from}
use Rattle.pgm_plates.proofs.Counts.{further_count, refused_count}
use Rattle.pgm_plates.proofs.Sequences.{passed_none, passed_more, page_found, page_refused}
use Rattle.pgm_plates.proofs.pages.read_images.Goals as goal

pub loop-init : goal.loop-init
loop-init g c = passed_none (g.T.Tray.state c.args.tray.now) c.requires

pub loop-preserved : goal.loop-preserved
loop-preserved g c =
    passed_more (g.T.Tray.state c.args.tray.now) (g.T.Tray.state c.loop.tray) (g.T.Tray.state c.read_image.new.tray) c.loop.counter c.loop.start c.in-Ok-Some.size _
    c.loop.invariant (subst (λ (o : Option (Values × ℕ)). ReadsImage (g.T.Tray.state c.loop.tray) (g.T.Tray.state c.read_image.new.tray) (map_ok (map_some (image_from c.args.form)) (Ok o))) c.in-Ok-Some.field-0-is c.in-Ok-Some.ensures.answer) c.in-Ok-Some.ensures.count (search rules)

pub returns-in-Err-clause-answer : goal.returns-in-Err-clause-answer
returns-in-Err-clause-answer g c =
    subst (λ (r : PlateError). PageAnswers c.args.page (g.T.Tray.state c.args.tray.now) (g.T.Tray.state c.read_image.new.tray) (Err r)) (sym c.further_error.ensures)
    (page_refused (g.T.Tray.state c.args.tray.now) (g.T.Tray.state c.loop.tray) (g.T.Tray.state c.read_image.new.tray) c.args.page c.loop.counter c.loop.start c.in-Err.error
    (omega arith) c.loop.invariant c.in-Err.ensures.answer c.in-Err.ensures.near c.in-Err.ensures.some)

pub returns-in-Err-clause-count : goal.returns-in-Err-clause-count
returns-in-Err-clause-count g c =
    let a = g.T.Tray.state c.args.tray.now in
    let b = g.T.Tray.state c.loop.tray in
    let d = g.T.Tray.state c.read_image.new.tray in
    subst (λ (r : PlateError). KeepsCount {T = Option Plate} a d (Err r)) (sym c.further_error.ensures)
    (further_count (Option Plate) (Option Plate) a d c.loop.start c.in-Err.error (refused_count (Option (Values × ℕ)) (Option Plate) a b d c.in-Err.error c.loop.invariant.well c.in-Err.ensures.count))

pub returns-in-Ok-None-clause-count : goal.returns-in-Ok-None-clause-count
returns-in-Ok-None-clause-count g c = c.in-Ok-None.ensures.count ∙ c.loop.invariant.well

pub returns-in-Ok-Some-read_image-clause-count : goal.returns-in-Ok-Some-read_image-clause-count
returns-in-Ok-Some-read_image-clause-count g c = c.in-Ok-Some-read_image.ensures.count ∙ c.loop.invariant.well

pub returns-in-Ok-Some-read_image-clause-below : goal.returns-in-Ok-Some-read_image-clause-below
returns-in-Ok-Some-read_image-clause-below g c =
    subst (λ (o : Option (Values × ℕ)). IfSome o (λ (r : Values × ℕ). Fit r.0.header.maxval r.0.values)) c.in-Ok-Some-read_image.field-0-is c.in-Ok-Some-read_image.ensures.below

pub returns-in-Ok-None-read_image-clause-count : goal.returns-in-Ok-None-read_image-clause-count
returns-in-Ok-None-read_image-clause-count g c = c.in-Ok-None-read_image.ensures.count ∙ c.loop.invariant.well

pub returns-in-Err-read_image-clause-count : goal.returns-in-Err-read_image-clause-count
returns-in-Err-read_image-clause-count g c =
    let a = g.T.Tray.state c.args.tray.now in
    let b = g.T.Tray.state c.loop.tray in
    let d = g.T.Tray.state c.read_image-2.new.tray in
    let error = c.in-Err-read_image.error in
    subst (λ (r : PlateError). KeepsCount {T = Option Plate} a d (Err r)) (sym c.further_error-in-Err-read_image.ensures)
    (further_count (Option Plate) (Option Plate) a d c.loop.start error (refused_count (Option (Values × ℕ)) (Option Plate) a b d error c.loop.invariant.well c.in-Err-read_image.ensures.count))

pub returns-in-Ok-Some-read_image-clause-answer : goal.returns-in-Ok-Some-read_image-clause-answer
returns-in-Ok-Some-read_image-clause-answer g c =
    page_found (g.T.Tray.state c.args.tray.now) (g.T.Tray.state c.loop.tray) (g.T.Tray.state c.read_image-2.new.tray) c.args.page c.loop.counter c.loop.start _ (plate_from c.args.form c.in-Ok-Some-read_image.read)
    (search rules) c.loop.invariant (subst (λ (o : Option (Values × ℕ)). ReadsImage (g.T.Tray.state c.loop.tray) (g.T.Tray.state c.read_image-2.new.tray) (map_ok (map_some (image_from c.args.form)) (Ok o))) c.in-Ok-Some-read_image.field-0-is c.in-Ok-Some-read_image.ensures.answer)

pub returns-in-Err-read_image-clause-answer : goal.returns-in-Err-read_image-clause-answer
returns-in-Err-read_image-clause-answer g c =
    subst (λ (r : PlateError). PageAnswers c.args.page (g.T.Tray.state c.args.tray.now) (g.T.Tray.state c.read_image-2.new.tray) (Err r)) (sym c.further_error-in-Err-read_image.ensures)
    (page_refused (g.T.Tray.state c.args.tray.now) (g.T.Tray.state c.loop.tray) (g.T.Tray.state c.read_image-2.new.tray) c.args.page c.loop.counter c.loop.start c.in-Err-read_image.error
    (omega arith) c.loop.invariant c.in-Err-read_image.ensures.answer c.in-Err-read_image.ensures.near c.in-Err-read_image.ensures.some)

pub returns-in-Ok-None-read_image-clause-answer : goal.returns-in-Ok-None-read_image-clause-answer
returns-in-Ok-None-read_image-clause-answer g c = grind (arith, common_steps)

pub returns-in-Ok-None-clause-answer : goal.returns-in-Ok-None-clause-answer
returns-in-Ok-None-clause-answer g c = grind (arith, common_steps)
