-- The loops of copy_all_over: copies all plates over planes that have as many tints.
use Rattle.std.proofs.Common.{◌≡◌, ◌<◌, ◌≤◌, ℕ, length}
use Rattle.page_model.specs.Page.{plates, samples}
use Rattle.page_model.specs.Planes.{plane_at}
use Rattle.page_tally.specs.Standing.{IsTrappedTo}
use Rattle.page_tally.proofs.planes.copy_all_over.Given as goal

abbrev pub invariant-loop-c : goal.invariant-loop-c
invariant-loop-c l = record {
  end : l.c-end ≡ plates l.page;
  count : length l.planes ≡ plates l.page;
  done : (j : ℕ) → j < l.c → IsTrappedTo l.page j 0 (plane_at l.planes j);
  rest : (j : ℕ) → l.c ≤ j → j < plates l.page → length (plane_at l.planes j).tints ≡ samples l.page;
}
