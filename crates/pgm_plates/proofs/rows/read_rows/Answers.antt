-- read_rows: reads the next samples of a plate, of which so many were read before, row by row from
-- the top.
use Rattle.std.proofs.Common.{◌+◌, ◌*◌, ap, ℕ}
use Rattle.pgm_plates.proofs.RowLemmas.{rows_answered}
use Rattle.pgm_plates.proofs.rows.read_rows.Goals as goal

pub returns-clause-rows : goal.returns-clause-rows
returns-clause-rows g c =
    rows_answered c.args.plate c.args.done (c.args.plate.size + c.args.done * c.sample_size.result) c.fill_samples.new.samples (g.T.Tray.state c.args.tray.now) (g.T.Tray.state c.fill_samples.new.tray) c.fill_samples.result
    (ap (λ (n : ℕ). c.args.plate.size + c.args.done * n) c.sample_size.ensures) c.fill_samples.ensures.answer c.fill_samples.ensures.count
