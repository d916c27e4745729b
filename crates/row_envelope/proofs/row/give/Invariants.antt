-- The loops of give: gives the samples from x on and before `end` the arm at a place.
use Rattle.std.proofs.Common.{◌≤◌, ◌<◌, ◌≡◌, ℕ, length, slice_index_or, None, Some}
use Rattle.row_envelope.proofs.row.give.Given as goal

abbrev pub invariant-loop-j : goal.invariant-loop-j
invariant-loop-j l = record {
  from : l.x ≤ l.j;
  len : length l.out ≡ length l.initial.out;
  before : (k : ℕ) → k < l.x → slice_index_or l.out k None ≡ slice_index_or l.initial.out k None;
  here : (k : ℕ) → l.x ≤ k → k < l.j → slice_index_or l.out k None ≡ Some l.place;
}
