-- The loops of note_each: notes where the tint falls by at least the step, and where it rises by as
-- much.
use Rattle.std.proofs.Common.{◌≡◌, ◌≤◌, ◌<◌, ◌-◌, ◌||◌, ℕ, false, length, nat_le, slice_index, slice_index_or}
use Rattle.edge_rule.proofs.pairs.note_each.Given as goal

abbrev pub invariant-loop-k : goal.invariant-loop-k
invariant-loop-k l = record {
  end : l.k-end ≡ length l.here;
  fallen_len : length l.fallen ≡ length l.initial.fallen;
  risen_len : length l.risen ≡ length l.initial.risen;
  fallen : (j : ℕ) → j < l.k → slice_index_or l.fallen j false ≡ (slice_index_or l.initial.fallen j false || nat_le l.step (slice_index l.here j - slice_index l.there j));
  risen : (j : ℕ) → j < l.k → slice_index_or l.risen j false ≡ (slice_index_or l.initial.risen j false || nat_le l.step (slice_index l.there j - slice_index l.here j));
  fallen_rest : (j : ℕ) → l.k ≤ j → j < length l.here → slice_index_or l.fallen j false ≡ slice_index_or l.initial.fallen j false;
  risen_rest : (j : ℕ) → l.k ≤ j → j < length l.here → slice_index_or l.risen j false ≡ slice_index_or l.initial.risen j false;
}
