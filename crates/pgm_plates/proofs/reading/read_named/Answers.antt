-- read_named: reads a plate from the file of that name, and keeps its samples in that form.
use Rattle.std.proofs.lemmas.Result.{err_from_is_err_and}
use Rattle.pgm_plates.specs.Planes.{map_ok}
use Rattle.pgm_plates.specs.Readers.{plate_from}
use Rattle.pgm_plates.proofs.Wholes.{begun_then, not_begun}
use Rattle.pgm_plates.proofs.reading.read_named.Goals as goal

pub returns-clause-answer : goal.returns-clause-answer
returns-clause-answer g c =
    begun_then c.args.bounds c.args.name.now (g.T.Tray.state c.args.tray.now) (g.T.Tray.state c.begin.new.self) (g.T.Tray.state c.read_begun.new.tray) _ (map_ok (plate_from c.args.form) c.read_begun.result)
    c.in_ok-begin.ensures c.read_begun.ensures.answer c.read_begun.ensures.count

pub returns-in_err-begin-clause-answer : goal.returns-in_err-begin-clause-answer
returns-in_err-begin-clause-answer g c =
    let p = err_from_is_err_and c.from_residual.result c.from_residual.ensures.1 in
    rw (p.1, p.2) (not_begun c.args.bounds c.args.name.now (g.T.Tray.state c.args.tray.now) (g.T.Tray.state c.begin.new.self) _ c.in_err-begin.ensures)
