-- judge_rows: reads the next `count` samples of a plate, of which so many were read before, and
-- keeps none of them.
use Rattle.std.proofs.Common.{◌+◌, ◌*◌, ap, ℕ}
use Rattle.pgm_plates.proofs.RowLemmas.{unkept_answered}
use Rattle.pgm_plates.proofs.rows.judge_rows.Goals as goal

pub returns-clause-rows : goal.returns-clause-rows
returns-clause-rows g c =
    unkept_answered c.args.plate c.args.done c.args.count (c.args.plate.size + c.args.done * c.sample_size.result) (g.T.Tray.state c.args.tray.now) (g.T.Tray.state c.judge_samples.new.tray) c.judge_samples.result
    (ap (λ (n : ℕ). c.args.plate.size + c.args.done * n) c.sample_size.ensures) c.judge_samples.ensures.answer c.judge_samples.ensures.count
