-- The loops of read_line: reads the next line, and says whether there is one.
use Rattle.std.proofs.Common.{◌<◌, ◌-◌, length}
use Rattle.trap_set.specs.Bytes.{IsIn, stored_in, most_line}
use Rattle.trap_set.proofs.NextLemmas.{ReadSoFar}
use Rattle.trap_set.proofs.bytes.read_line.Given as goal

abbrev pub invariant-loop-tray : goal.invariant-loop-tray
invariant-loop-tray g l = record {
  so : ReadSoFar (g.T.Tray.state l.fn.tray) (g.T.Tray.state l.tray) (stored_in l.fn.buf l.fn.unread) (stored_in l.buf l.unread) l.line.items;
  within : IsIn l.buf l.unread;
  workspace : 0 < length l.buf;
}

abbrev pub decreases-loop-tray : goal.decreases-loop-tray
decreases-loop-tray g l = most_line - length l.line.items
