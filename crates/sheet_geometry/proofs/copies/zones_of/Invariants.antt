-- The loops of zones_of: the zones from a corner that stands so far to the right and up, in
-- ten-thousandths of a point.
use Rattle.std.proofs.Common.{◌≡◌, take}
use Rattle.std.specs.Prelude.{map}
use Rattle.sheet_geometry.specs.Windows.{moved_zone}
use Rattle.sheet_geometry.proofs.copies.zones_of.Given as goal

abbrev pub invariant-loop-zone : goal.invariant-loop-zone
invariant-loop-zone l = l.moved ≡ map (moved_zone l.right l.up) (take l.zone-index l.zones)
