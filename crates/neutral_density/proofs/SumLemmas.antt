-- Sums of tints by their weights, term by term.
use Rattle.std.proofs.Common.{◌≡◌, ℕ, ◌+◌, ◌*◌, ◌≤◌, add-one, arith, refl}
use Rattle.std.proofs.Math.Nat.{mul-le-mul}
use Rattle.lists.specs.Words.{sum_below}

-- one more term of a sum
pub sum_next : (f : ℕ → ℕ) (n total term : ℕ) → total ≡ sum_below f n → term ≡ f n → total + term ≡ sum_below f (n + 1)
sum_next f n total term e h = rw (e, h, add-one) refl

-- a tint by its weight, and a sum with one more of them
pub term_most : (weight tint : ℕ) → weight ≤ 100000 → tint ≤ 65535 → weight * tint ≤ 6553500000
term_most weight tint h k = mul-le-mul h k

pub most_next : (n total weight tint : ℕ) → total ≤ n * 6553500000 → weight ≤ 100000 → tint ≤ 65535 → total + weight * tint ≤ (n + 1) * 6553500000
most_next n total weight tint le h k = omega (arith, term_most weight tint h k)
