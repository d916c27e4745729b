-- The loops of read_on: reads on in the file that is begun.
use Rattle.std.proofs.Common.{◌≡◌, IsTrue, ◌++◌, ◌≤◌, ◌-◌, length}
use Rattle.outside.specs.Tray.{KeepsTray}
use Rattle.outside.proofs.reading.read_on.Given as goal

abbrev pub invariant-loop-piece : goal.invariant-loop-piece
invariant-loop-piece g l = record {
  keeps : KeepsTray (g.T.Tray.state l.fn.tray) (g.T.Tray.state l.tray);
  asked : (g.T.Tray.state l.tray).asked ≡ (g.T.Tray.state l.fn.tray).asked;
  begun : IsTrue (g.T.Tray.state l.tray).begun;
  taken : IsTrue (g.T.Tray.state l.fn.tray).tells → (g.T.Tray.state l.fn.tray).left ≡ l.bytes.items ++ (g.T.Tray.state l.tray).left;
  well : (g.T.Tray.state l.tray).faults ≡ (g.T.Tray.state l.fn.tray).faults;
  size : length l.bytes.items ≤ l.most;
}

abbrev pub decreases-loop-piece : goal.decreases-loop-piece
decreases-loop-piece g l = l.most - length l.bytes.items
