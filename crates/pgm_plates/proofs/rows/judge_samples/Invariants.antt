-- The loops of judge_samples: judges so many samples.
use Rattle.std.proofs.Common.{◌≡◌, ◌≤◌, ◌-◌, IsTrue}
use Rattle.pgm_plates.proofs.RowLemmas.{Unkept}
use Rattle.pgm_plates.proofs.rows.judge_samples.Given as goal

abbrev pub invariant-loop-done : goal.invariant-loop-done
invariant-loop-done g l = record {
  taken : Unkept l.maxval l.done (g.T.Tray.state l.fn.tray) (g.T.Tray.state l.tray);
  begun : IsTrue (g.T.Tray.state l.tray).begun;
  count : (g.T.Tray.state l.tray).faults ≡ (g.T.Tray.state l.fn.tray).faults;
  within : l.done ≤ l.count;
}

abbrev pub decreases-loop-done : goal.decreases-loop-done
decreases-loop-done g l = l.count - l.done
