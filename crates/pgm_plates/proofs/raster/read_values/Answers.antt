-- read_values: reads as many samples as there is room for, and leaves them in that form.
use Rattle.pgm_plates.proofs.ReadValues.{taken_from}
use Rattle.pgm_plates.proofs.raster.read_values.Goals as goal

pub returns-clause-answer : goal.returns-clause-answer
returns-clause-answer g c =
    taken_from c.args.form c.args.maxval (g.T.Tray.state c.args.tray.now) (g.T.Tray.state c.read_piece.new.tray) c.read_piece.new.samples c.turn_to.new.values c.turn_to.ensures.samples c.in_ok-read_piece.ensures.answer
