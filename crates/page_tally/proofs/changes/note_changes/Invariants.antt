-- The loops of note_changes: notes the samples of row y at which some plate changes.
use Rattle.std.proofs.Common.{◌≡◌, ◌<◌, ℕ, false, length, slice_index_or}
use Rattle.page_model.specs.Counts.{plate_changes}
use Rattle.page_model.specs.Page.{plates, width}
use Rattle.lists.specs.Words.{any_below}
use Rattle.page_tally.proofs.changes.note_changes.Given as goal

abbrev pub invariant-loop-c : goal.invariant-loop-c
invariant-loop-c l = record {
  end : l.c-end ≡ plates l.page;
  len : length l.changes ≡ width l.page;
  each : (x : ℕ) → x < width l.page → slice_index_or l.changes x false ≡ any_below (λ c. plate_changes l.page c (record { x = x; y = l.y })) l.c;
}
