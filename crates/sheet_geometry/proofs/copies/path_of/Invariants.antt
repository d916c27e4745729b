-- How far the loops of `path_of` have come.
use Rattle.std.proofs.Common.{◌≡◌, take}
use Rattle.std.specs.Prelude.{map}
use Rattle.sheet_geometry.specs.Windows.{moved_vertex}
use Rattle.sheet_geometry.proofs.copies.path_of.Given as goal

abbrev pub invariant-loop-vertex : goal.invariant-loop-vertex
invariant-loop-vertex l = l.moved ≡ map (moved_vertex l.right l.up) (take l.vertex-index l.path)
