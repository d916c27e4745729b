-- The loops of put_works: puts the plates, which are all taken, into the outcome, and how many
-- samples of each change.
use Rattle.std.proofs.Common.{◌≡◌, ℕ, ◌*◌, ◌<◌, ◌≤◌, slice_index}
use Rattle.std.specs.Prelude.{slice_index_or, vec_len}
use Rattle.lists.specs.Words.{count_below}
use Rattle.page_model.specs.Counts.{plate_changes}
use Rattle.page_model.specs.Page.{height, plates, sample_at, width}
use Rattle.page_model.specs.Planes.{plane_at}
use Rattle.page_tally.specs.Standing.{IsTrappedTo, KeepsWorkspace}
use Rattle.page_tally.specs.Tallies.{HasTallies}
use Rattle.trap_engine.specs.declared.plates.PlateWork.{PlateWork}
use Rattle.trap_engine.specs.Taking.{IsTakenPlate}
use Rattle.trap_engine.proofs.plates.put_works.Given as goal

abbrev pub invariant-loop-work : goal.invariant-loop-work
invariant-loop-work l = record {
  counted : HasTallies l.page 0 l.outcome;
  workspace : KeepsWorkspace l.initial.outcome l.outcome;
  few : vec_len l.works ≤ plates l.page;
  works : (j : ℕ) (d : PlateWork) → j < vec_len l.works → IsTakenPlate l.page j (slice_index_or l.works.items j d).tints.items (slice_index_or l.works.items j d).changed;
  planes : (j : ℕ) → vec_len l.works ≤ j → j < plates l.page → IsTrappedTo l.page j (height l.page * width l.page) (plane_at l.outcome.planes j);
  changed : (j : ℕ) → vec_len l.works ≤ j → j < plates l.page → slice_index l.outcome.plate_changed.items j ≡ count_below (λ k. plate_changes l.page j (sample_at l.page k)) (height l.page * width l.page);
}

abbrev pub decreases-loop-work : goal.decreases-loop-work
decreases-loop-work l = vec_len l.works
