-- The loops of begin_plates: begins the plates of these files once more, each by the tray of its
-- number, and gives in `plates` how they were begun.
use Rattle.std.proofs.Common.{map}
use Rattle.plate_rows.specs.Rereading.{BeginsAt}
use Rattle.plate_rows.specs.Trays.{EachTray}
use Rattle.plate_rows.proofs.rereading.begin_plates.Given as goal

abbrev pub invariant-loop-place : goal.invariant-loop-place
invariant-loop-place g l = EachTray l.place (BeginsAt (map g.S.AsStr.text l.inputs) l.headers l.plates) (map g.T.Tray.state l.fn.trays) (map g.T.Tray.state l.trays)
