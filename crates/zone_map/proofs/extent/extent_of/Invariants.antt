-- How far the loop of extent_of has come.
use Rattle.std.proofs.Common.{◌<◌, ℕ}
use Rattle.std.specs.Prelude.{slice_index_or}
use Rattle.page_model.specs.declared.parts.Vertex.{Vertex}
use Rattle.zone_map.specs.Extents.{IsBetween, IsLow}
use Rattle.zone_map.proofs.extent.extent_of.Given as goal

abbrev pub invariant-loop-i : goal.invariant-loop-i
invariant-loop-i l = record {
  near : IsLow l.extent;
  done : (k : ℕ) (d : Vertex) → k < l.i → IsBetween l.resolution l.extent (slice_index_or l.path k d);
}
