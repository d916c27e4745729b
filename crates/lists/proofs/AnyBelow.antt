-- What a test of any number below a bound says of each.
use Rattle.std.proofs.Common.{◌≡◌, ℕ, zero, suc, ◌<◌, Bool, true, false, inl, inr, arith, sym, subst}
use Rattle.std.proofs.lemmas.Bool.{cases_eq, or_parts, or_left, or_right}
use Rattle.lists.specs.Words.{any_below}

pub any_below-none : (test : ℕ → Bool) (n j : ℕ) → any_below test n ≡ false → j < n → test j ≡ false
any_below-none test zero j f l = absurd (omega (arith, l))
any_below-none test (suc n) j f l = let t = or_parts (any_below test n) (test n) f in elim (cases_eq j n) [ inl e ↦ subst (λ (m : ℕ). test m ≡ false) (sym e) t.1 | inr ne ↦ any_below-none test n j t.0 (omega (arith, l, ne)) ]

pub any_below-from : (test : ℕ → Bool) (n j : ℕ) → j < n → test j ≡ true → any_below test n ≡ true
any_below-from test zero j l t = absurd (omega (arith, l))
any_below-from test (suc n) j l t = elim (cases_eq j n) [
  | inl e ↦ or_right (any_below test n) (test n) (subst (λ (m : ℕ). test m ≡ true) e t)
  | inr ne ↦ or_left (any_below test n) (test n) (any_below-from test n j (omega (arith, l, ne)) t)
]
