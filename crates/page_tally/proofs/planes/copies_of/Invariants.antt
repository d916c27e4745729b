-- The loops of copies_of: copies of all plates.
use Rattle.std.proofs.Common.{◌≡◌, ◌<◌, ℕ, length}
use Rattle.page_model.specs.Page.{plates}
use Rattle.page_model.specs.Planes.{plane_at}
use Rattle.page_tally.specs.Standing.{IsTrappedTo}
use Rattle.page_tally.proofs.planes.copies_of.Given as goal

abbrev pub invariant-loop-c : goal.invariant-loop-c
invariant-loop-c l = record { end : l.c-end ≡ plates l.page; count : length l.planes ≡ l.c; each : (j : ℕ) → j < l.c → IsTrappedTo l.page j 0 (plane_at l.planes j) }
