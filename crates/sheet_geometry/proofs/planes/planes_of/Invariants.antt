-- The loops of planes_of: what a window shows of each plane.
use Rattle.std.proofs.Common.{◌≡◌, take}
use Rattle.std.specs.Prelude.{map}
use Rattle.sheet_geometry.specs.Windows.{shown_plane}
use Rattle.sheet_geometry.proofs.planes.planes_of.Given as goal

abbrev pub invariant-loop-plane : goal.invariant-loop-plane
invariant-loop-plane l = l.shown ≡ map (shown_plane l.wide l.cut) (take l.plane-index l.planes)
