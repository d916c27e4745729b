-- The loops of first_wide: the first zone that reaches too far.
use Rattle.std.proofs.Common.{◌≡◌, length}
use Rattle.lists.specs.Words.{first_some}
use Rattle.page_model.specs.Faults.{too_wide}
use Rattle.sheet_geometry.proofs.judging.first_wide.Given as goal

abbrev pub invariant-loop-z : goal.invariant-loop-z
invariant-loop-z l = record { end : l.z-end ≡ length l.sheet.zones; found : l.found ≡ first_some (too_wide l.sheet) l.z }
