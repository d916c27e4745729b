-- How far the loops of `judge_each` have come.
use Rattle.std.proofs.Common.{map}
use Rattle.plate_rows.specs.Judging.{Judges}
use Rattle.plate_rows.specs.Trays.{EachTray}
use Rattle.plate_rows.proofs.judging.judge_each.Given as goal

abbrev pub invariant-loop-place : goal.invariant-loop-place
invariant-loop-place g l = EachTray l.place (Judges (map g.S.AsStr.text l.inputs) l.headers) (map g.T.Tray.state l.fn.trays) (map g.T.Tray.state l.trays)
