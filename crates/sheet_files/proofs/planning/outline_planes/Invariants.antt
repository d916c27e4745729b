-- How far the loops of `outline_planes` have come.
use Rattle.std.proofs.Common.{◌≡◌, map, take}
use Rattle.sheet_files.specs.Planning.{plane_for}
use Rattle.sheet_files.proofs.planning.outline_planes.Given as goal

abbrev pub invariant-loop-header : goal.invariant-loop-header
invariant-loop-header l = l.planes ≡ map plane_for (take l.header-index l.headers)
