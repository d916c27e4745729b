-- How far the loops of `first_wide` have come.
use Rattle.std.proofs.Common.{◌≡◌, length}
use Rattle.page_model.specs.Faults.{too_wide}
use Rattle.lists.specs.Words.{first_some}
use Rattle.page_model.proofs.page.first_wide.Given as goal

abbrev pub invariant-loop-z : goal.invariant-loop-z
invariant-loop-z l = record { end : l.z-end ≡ length l.parts.zones; found : l.found ≡ first_some (too_wide l.parts) l.z }
