-- The least halo.
use Rattle.std.proofs.Common.{ℕ, ◌+◌, ◌*◌, ◌<◌, ◌≤◌, inl, inr, arith}
use Rattle.std.proofs.lemmas.Bool.{cases_lt}
use Rattle.std.proofs.lemmas.Nat.{mul-le}
use Rattle.lists.specs.Words.{square}

-- a number whose square is more than the limit is more than one whose square is not
pub root_next : (limit r n : ℕ) → r * r ≤ limit → limit < square n → r + 1 ≤ n
root_next limit r n low above = elim (cases_lt r n) [
  | inl l ↦ omega (arith, l)
  | inr m ↦ let small : n * n ≤ r * r = mul-le n n r r m m in absurd (omega (arith, small, low, above))
]
