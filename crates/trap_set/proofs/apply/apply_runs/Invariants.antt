-- The loops of apply_runs: applies the runs after the page line.
use Rattle.std.proofs.Common.{◌≡◌, ◌<◌, ◌-◌, ◌+◌, ◌*◌, IsTrue, length}
use Rattle.trap_set.specs.Bytes.{IsIn, stored_in}
use Rattle.trap_set.specs.Reading.{head_in}
use Rattle.trap_set.proofs.StandLemmas.{Standing}
use Rattle.trap_set.proofs.apply.apply_runs.Given as goal

abbrev pub invariant-loop-planes : goal.invariant-loop-planes
invariant-loop-planes g l = record {
  begun : IsTrue (g.T.Tray.state l.tray).begun;
  within : IsIn l.buf l.unread;
  workspace : 0 < length l.buf;
  many : length l.numbers ≡ l.head.plates + 3;
  standing : Standing (head_in l.head) l.place l.number l.fn.planes l.planes (g.T.Tray.state l.fn.tray) (g.T.Tray.state l.tray) (stored_in l.fn.buf l.fn.unread) (stored_in l.buf l.unread);
}

abbrev pub decreases-loop-planes : goal.decreases-loop-planes
decreases-loop-planes g l = l.head.height * l.head.width - (l.place.row * l.head.width + l.place.column)
