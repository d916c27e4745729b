-- The loops of read_tints: reads the next samples of a plate and turns them into tints, piece by
-- piece.
use Rattle.std.proofs.Common.{◌≤◌, ◌-◌, Ok, length, take}
use Rattle.plate_rows.specs.Rereading.{ReadsTints}
use Rattle.plate_rows.proofs.rereading.read_tints.Given as goal

abbrev pub invariant-loop-filled : goal.invariant-loop-filled
invariant-loop-filled g l = record {
  read : ReadsTints l.plate l.done (take l.filled l.tints) (g.T.Tray.state l.fn.tray) (g.T.Tray.state l.tray) (Ok tt);
  within : l.filled ≤ length l.tints;
}

abbrev pub decreases-loop-filled : goal.decreases-loop-filled
decreases-loop-filled g l = length l.initial.tints - l.filled
