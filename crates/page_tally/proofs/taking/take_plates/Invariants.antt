-- The loops of take_plates: takes in the new tints of row y.
use Rattle.std.proofs.Common.{◌≡◌, ◌<◌, ◌*◌, ℕ, false, length, slice_index_or}
use Rattle.page_model.specs.Counts.{plate_changes}
use Rattle.page_model.specs.Page.{plates, width}
use Rattle.lists.specs.Words.{any_below}
use Rattle.page_tally.specs.Standing.{AreTrapping}
use Rattle.page_tally.proofs.CountLemmas.{AreCounting}
use Rattle.page_tally.proofs.taking.take_plates.Given as goal

abbrev pub invariant-loop-c : goal.invariant-loop-c
invariant-loop-c l = record {
  end : l.c-end ≡ plates l.page;
  planes : AreTrapping l.page l.planes (l.y * width l.page) (width l.page) l.c;
  counts : AreCounting l.page l.y l.c l.counts;
  len : length l.changes ≡ width l.page;
  each : (x : ℕ) → x < width l.page → slice_index_or l.changes x false ≡ any_below (λ c. plate_changes l.page c (record { x = x; y = l.y })) l.c;
}
