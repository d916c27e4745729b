-- The loops of read_next: reads the next rows of each plate by the tray of its number, and turns
-- their samples into tints of the plane of its number.
use Rattle.std.proofs.Common.{map}
use Rattle.plate_rows.proofs.ReadLemmas.{NextSoFar}
use Rattle.plate_rows.proofs.rereading.read_next.Given as goal

abbrev pub invariant-loop-place : goal.invariant-loop-place
invariant-loop-place g l = NextSoFar l.plates l.next l.place l.fn.planes l.planes (map g.T.Tray.state l.fn.trays) (map g.T.Tray.state l.trays)
