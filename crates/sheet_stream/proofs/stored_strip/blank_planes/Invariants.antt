-- How far the loops of `blank_planes` have come.
use Rattle.std.proofs.Common.{◌≡◌, map, take}
use Rattle.sheet_stream.specs.StoredStrips.{blank_plane}
use Rattle.sheet_stream.proofs.stored_strip.blank_planes.Given as goal

abbrev pub invariant-loop-plane : goal.invariant-loop-plane
invariant-loop-plane l = l.blank ≡ map (blank_plane l.rows) (take l.plane-index l.planes)
