-- The loops of are_blank: whether no sample of these has a mark.
use Rattle.std.proofs.Common.{◌≡◌, ◌<◌, ℕ, true, length, slice_index}
use Rattle.row_values.proofs.answers.are_blank.Given as goal

abbrev pub invariant-loop-k : goal.invariant-loop-k
invariant-loop-k l = record { end : l.k-end ≡ length l.marks; done : l.all ≡ true → (j : ℕ) → j < l.k → slice_index l.marks j ≡ 0 }
