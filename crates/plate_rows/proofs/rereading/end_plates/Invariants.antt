-- The loops of end_plates: looks for what stands after the last sample of each plate, by the tray
-- of its number.
use Rattle.std.proofs.Common.{map}
use Rattle.plate_rows.specs.Rereading.{EndsAt}
use Rattle.plate_rows.specs.Trays.{EachTray}
use Rattle.plate_rows.proofs.rereading.end_plates.Given as goal

abbrev pub invariant-loop-place : goal.invariant-loop-place
invariant-loop-place g l = EachTray l.place (EndsAt l.plates) (map g.T.Tray.state l.fn.trays) (map g.T.Tray.state l.trays)
