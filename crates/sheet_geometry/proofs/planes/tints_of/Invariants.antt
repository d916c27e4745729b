-- How far the loops of `tints_of` have come.
use Rattle.std.proofs.Common.{◌≡◌, ◌*◌}
use Rattle.sheet_geometry.specs.Shown.{shown_tints}
use Rattle.sheet_geometry.proofs.planes.tints_of.Given as goal

abbrev pub invariant-loop-y : goal.invariant-loop-y
invariant-loop-y l = l.shown.items ≡ shown_tints l.wide l.cut l.tints (l.y * l.cut.width)
