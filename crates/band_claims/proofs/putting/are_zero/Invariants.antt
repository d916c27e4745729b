-- The loops of are_zero: whether all values are 0.
use Rattle.std.proofs.Common.{◌≡◌, ℕ, ◌<◌, true, slice_index}
use Rattle.band_claims.proofs.putting.are_zero.Given as goal

abbrev pub invariant-loop-k : goal.invariant-loop-k
invariant-loop-k g l = l.all ≡ true → (j : ℕ) → j < l.k → slice_index (g.V.CellValue.numbers l.values) j ≡ 0
