-- read_named: reads the image of that number from the file of that name, and keeps its samples in
-- that form.
use Rattle.std.proofs.lemmas.Result.{err_from_is_err_and}
use Rattle.pgm_plates.specs.Planes.{map_ok, map_some}
use Rattle.pgm_plates.specs.Readers.{plate_from}
use Rattle.pgm_plates.proofs.Sequences.{page_begun, page_not_begun}
use Rattle.pgm_plates.proofs.pages.read_named.Goals as goal

pub returns-clause-answer : goal.returns-clause-answer
returns-clause-answer g c =
    page_begun c.args.name.now c.args.page (g.T.Tray.state c.args.tray.now) (g.T.Tray.state c.begin.new.self) (g.T.Tray.state c.read_images.new.tray) _ (map_ok (map_some (plate_from c.args.form)) c.read_images.result)
    c.in_ok-begin.ensures c.read_images.ensures.answer c.read_images.ensures.count

pub returns-in_err-begin-clause-answer : goal.returns-in_err-begin-clause-answer
returns-in_err-begin-clause-answer g c =
    let p = err_from_is_err_and c.from_residual.result c.from_residual.ensures.1 in
    rw (p.1, p.2) (page_not_begun c.args.name.now c.args.page (g.T.Tray.state c.args.tray.now) (g.T.Tray.state c.begin.new.self) _ c.in_err-begin.ensures)
