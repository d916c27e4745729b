-- The loops of first_far: the first zone that has such a vertex.
use Rattle.std.proofs.Common.{◌≡◌, length}
use Rattle.lists.specs.Words.{first_some}
use Rattle.sheet_geometry.specs.CommonErrors.{far}
use Rattle.sheet_geometry.proofs.far.first_far.Given as goal

abbrev pub invariant-loop-z : goal.invariant-loop-z
invariant-loop-z l = record { end : l.z-end ≡ length l.sheet.zones; found : l.found ≡ first_some (far l.sheet) l.z }
