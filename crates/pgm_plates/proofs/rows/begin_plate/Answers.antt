-- begin_plate: begins the file of that name and reads the header of the plate within these bounds
-- that it spells.
use Rattle.std.proofs.lemmas.Result.{err_from_is_err_and}
use Rattle.pgm_plates.proofs.RowLemmas.{plate_begun}
use Rattle.pgm_plates.proofs.Wholes.{not_begun}
use Rattle.pgm_plates.proofs.rows.begin_plate.Goals as goal

pub returns-clause-begun : goal.returns-clause-begun
returns-clause-begun g c = plate_begun c.args.bounds c.args.name.now (g.T.Tray.state c.args.tray.now) (g.T.Tray.state c.begin.new.self) (g.T.Tray.state c.open_plate.new.tray) c.open_plate.result c.in_ok-begin.ensures c.open_plate.ensures.answer c.open_plate.ensures.count

pub returns-in_err-begin-clause-begun : goal.returns-in_err-begin-clause-begun
returns-in_err-begin-clause-begun g c =
    let p = err_from_is_err_and c.from_residual.result c.from_residual.ensures.1 in
    rw (p.1, p.2) (not_begun c.args.bounds c.args.name.now (g.T.Tray.state c.args.tray.now) (g.T.Tray.state c.begin.new.self) _ c.in_err-begin.ensures)
