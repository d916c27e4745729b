-- end_plate: looks for what stands after the last sample of a plate.
use Rattle.std.proofs.Common.{◌+◌, ◌*◌, ap, ℕ}
use Rattle.pgm_plates.proofs.RowLemmas.{end_answered}
use Rattle.pgm_plates.proofs.rows.end_plate.Goals as goal

pub returns-clause-ended : goal.returns-clause-ended
returns-clause-ended g c =
    let header = c.args.plate.header in
    end_answered c.args.plate (c.args.plate.size + header.width * header.height * c.sample_size.result) (g.T.Tray.state c.args.tray.now) (g.T.Tray.state c.end_of_file.new.tray) c.end_of_file.result
    (ap (λ (n : ℕ). c.args.plate.size + header.width * header.height * n) c.sample_size.ensures) c.end_of_file.ensures.answer c.end_of_file.ensures.count
