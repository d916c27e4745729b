-- The loops of has_far: whether a path has such a vertex.
use Rattle.std.proofs.Common.{◌≡◌, take}
use Rattle.std.specs.List.{list_any}
use Rattle.sheet_geometry.specs.CommonErrors.{is_far_by}
use Rattle.sheet_geometry.proofs.far.has_far.Given as goal

abbrev pub invariant-loop-vertex : goal.invariant-loop-vertex
invariant-loop-vertex l = l.found ≡ list_any (is_far_by l.wide l.tall) (take l.vertex-index l.path)
