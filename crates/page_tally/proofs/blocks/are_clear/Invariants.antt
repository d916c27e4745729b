-- The loops of are_clear: whether none of so many samples, from one on, is noted.
use Rattle.std.proofs.Common.{◌≡◌, ◌<◌, ◌+◌, ℕ, true, false, slice_index_or}
use Rattle.lists.specs.Words.{any_below}
use Rattle.page_tally.proofs.blocks.are_clear.Given as goal

abbrev pub invariant-loop-k : goal.invariant-loop-k
invariant-loop-k l = record {
  clear : l.none ≡ true → (j : ℕ) → j < l.k → slice_index_or l.changes (l.from + j) false ≡ false;
  other : l.none ≡ false → any_below (λ j. slice_index_or l.changes (l.from + j) false) l.k ≡ true;
}
