-- The loops of note_blocks: notes the falls and the rises block by block.
use Rattle.std.proofs.Common.{◌≡◌, ◌≤◌, ◌<◌, ◌-◌, ◌||◌, ℕ, false, length, nat_le, slice_index, slice_index_or}
use Rattle.edge_rule.proofs.pairs.note_blocks.Given as goal

abbrev pub invariant-loop-at : goal.invariant-loop-at
invariant-loop-at l = record {
  inside : l.at ≤ length l.here;
  fallen_len : length l.fallen ≡ length l.initial.fallen;
  risen_len : length l.risen ≡ length l.initial.risen;
  fallen : (j : ℕ) → j < l.at → slice_index_or l.fallen j false ≡ (slice_index_or l.initial.fallen j false || nat_le l.step (slice_index l.here j - slice_index l.there j));
  risen : (j : ℕ) → j < l.at → slice_index_or l.risen j false ≡ (slice_index_or l.initial.risen j false || nat_le l.step (slice_index l.there j - slice_index l.here j));
  fallen_rest : (j : ℕ) → l.at ≤ j → j < length l.here → slice_index_or l.fallen j false ≡ slice_index_or l.initial.fallen j false;
  risen_rest : (j : ℕ) → l.at ≤ j → j < length l.here → slice_index_or l.risen j false ≡ slice_index_or l.initial.risen j false;
}

abbrev pub decreases-loop-at : goal.decreases-loop-at
decreases-loop-at l = length l.here - l.at
