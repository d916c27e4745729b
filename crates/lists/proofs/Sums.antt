-- Sums and tests over the numbers below a bound.
use Rattle.std.proofs.Common.{◌≡◌, ℕ, zero, suc, ◌<◌, ◌≤◌, Bool, true, inl, inr, arith}
use Rattle.std.proofs.lemmas.Bool.{cases_eq, or_cases, false≢true}
use Rattle.lists.specs.Words.{sum_below, any_below}

pub sum_below-le : (f g : ℕ → ℕ) (n : ℕ) → ((c : ℕ) → c < n → f c ≤ g c) → sum_below f n ≤ sum_below g n
sum_below-le f g zero h = omega arith
sum_below-le f g (suc n) h = omega (arith, sum_below-le f g n (λ c l. h c (omega arith)), h n (omega arith))

pub sum_below-pos : (f : ℕ → ℕ) (n c : ℕ) → c < n → 0 < f c → 0 < sum_below f n
sum_below-pos f zero c l p = let e : ⊥ = omega arith in absurd e
sum_below-pos f (suc n) c l p = elim (cases_eq c n) [ inl e ↦ (let q : 0 < f n = rw (← e) p in omega (arith, q)) | inr ne ↦ omega (arith, sum_below-pos f n c (omega (arith, ne)) p) ]

pub any_below-at : (test : ℕ → Bool) (n : ℕ) → any_below test n ≡ true → (c : ℕ) × (c < n) × (test c ≡ true)
any_below-at test zero h = absurd (false≢true h)
any_below-at test (suc n) h = elim (or_cases (any_below test n) (test n) h) [
  | inl e ↦ (let r = any_below-at test n e in (r.0, omega (arith, r.1), r.2))
  | inr t ↦ (n, omega arith, t)
]
