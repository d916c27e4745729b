-- The loops of are_alike: whether so many samples, from one on, lie in the zone of the first of
-- them.
use Rattle.std.proofs.Common.{◌≡◌, ◌<◌, ◌+◌, ℕ, not, true, false, slice_index}
use Rattle.std.specs.Prelude.{◌==◌}
use Rattle.lists.specs.Words.{any_below}
use Rattle.page_tally.proofs.blocks.are_alike.Given as goal

abbrev pub invariant-loop-k : goal.invariant-loop-k
invariant-loop-k l = record {
  alike : l.all ≡ true → (j : ℕ) → j < l.k → slice_index l.zones (l.from + j) ≡ l.zone;
  other : l.all ≡ false → any_below (λ j. not (slice_index l.zones (l.from + j) == l.zone)) l.k ≡ true;
}
