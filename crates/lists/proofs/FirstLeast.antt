-- The first of the least rank among numbers that pass a test, kept number by number.
use Rattle.std.proofs.Common.{◌≡◌, ℕ, zero, suc, ◌<◌, ◌≤◌, Bool, true, false, ◌&&◌, nat_lt, Option, Some, None, if◌then◌else◌, inl, inr, refl, arith, sym, ◌∙◌, ap}
use Rattle.std.specs.Option.{MatchOption}
use Rattle.std.proofs.lemmas.Bool.{cases_Bool, ltb-true, ltb-false, cases_eq, cases_order, false≢true}
use Rattle.lists.specs.Words.{first_least, beats, IsFirstLeast}

abbrev pub NonePasses : (ℕ → Bool) → ℕ → Type 0
NonePasses test n = (j : ℕ) → j < n → test j ≡ false

pub none_more : (test : ℕ → Bool) (n : ℕ) → NonePasses test n → test n ≡ false → NonePasses test (suc n)
none_more test n h f j l = elim (cases_eq j n) [ inl e ↦ rw e f | inr ne ↦ h j (omega (arith, ne)) ]

abbrev pub Answers : (ℕ → ℕ) → (ℕ → Bool) → ℕ → Option ℕ → Type 0
Answers rank test n best = MatchOption best (NonePasses test n) (IsFirstLeast rank test n)

not_both : (test : ℕ → Bool) (j : ℕ) → test j ≡ false → test j ≡ true → ⊥
not_both test j f t = false≢true (sym f ∙ t)

-- n is the first that passes
pub only : (rank : ℕ → ℕ) (test : ℕ → Bool) (n : ℕ) → NonePasses test n → test n ≡ true → IsFirstLeast rank test (suc n) n
only rank test n h t = record {
  below = omega arith;
  passes = t;
  least = λ j l p. elim (cases_eq j n) [ inl e ↦ rw e (omega arith) | inr ne ↦ absurd (not_both test j (h j (omega (arith, ne))) p) ];
  first = λ j l p. absurd (not_both test j (h j l) p);
}

-- n has a lesser rank than the best so far
pub beaten : (rank : ℕ → ℕ) (test : ℕ → Bool) (n k : ℕ) → IsFirstLeast rank test n k → test n ≡ true → rank n < rank k → IsFirstLeast rank test (suc n) n
beaten rank test n k h t b = record {
  below = omega arith;
  passes = t;
  least = λ j l p. elim (cases_eq j n) [ inl e ↦ rw e (omega arith) | inr ne ↦ omega (arith, h.least j (omega (arith, ne)) p) ];
  first = λ j l p. omega (arith, h.least j l p);
}

-- n does not pass, or has no lesser rank
pub kept : (rank : ℕ → ℕ) (test : ℕ → Bool) (n k : ℕ) → IsFirstLeast rank test n k → (test n ≡ true → rank k ≤ rank n) → IsFirstLeast rank test (suc n) k
kept rank test n k h o = record {
  below = omega (arith, h.below);
  passes = h.passes;
  least = λ j l p. elim (cases_eq j n) [ inl e ↦ (rw e (o (rw e at p))) | inr ne ↦ h.least j (omega (arith, ne)) p ];
  first = h.first;
}

step : (rank : ℕ → ℕ) (test : ℕ → Bool) (n : ℕ) (best : Option ℕ) → Answers rank test n best → Answers rank test (suc n) (if test n && beats rank n best then Some n else best)
step rank test n None h = elim (cases_Bool (test n)) [ inl t ↦ rw t (only rank test n h t) | inr f ↦ rw f (none_more test n h f) ]
step rank test n (Some k) h = elim (cases_Bool (test n)) [
  | inl t ↦ rw t (elim (cases_Bool (nat_lt (rank n) (rank k))) [
    | inl b ↦ rw b (beaten rank test n k h t (ltb-true _ _ b))
    | inr nb ↦ rw nb (kept rank test n k h (λ _. ltb-false _ _ nb))
  ])
  | inr f ↦ rw f (kept rank test n k h (λ t. absurd (not_both test n f t)))
]

pub first_least-is : (rank : ℕ → ℕ) (test : ℕ → Bool) (n : ℕ) → Answers rank test n (first_least rank test n)
first_least-is rank test zero = λ j l. let e : ⊥ = omega arith in absurd e
first_least-is rank test (suc n) = step rank test n (first_least rank test n) (first_least-is rank test n)

-- two numbers that are the first of the least rank are one
pub IsFirstLeast-unique : (rank : ℕ → ℕ) (test : ℕ → Bool) (n j k : ℕ) → IsFirstLeast rank test n j → IsFirstLeast rank test n k → j ≡ k
IsFirstLeast-unique rank test n j k a b = elim (cases_order j k) [
  | inl e ↦ e
  | inr (inl l) ↦ (let e : ⊥ = omega (arith, b.first j l a.passes, a.least k b.below b.passes) in absurd e)
  | inr (inr l) ↦ (let e : ⊥ = omega (arith, a.first k l b.passes, b.least j a.below a.passes) in absurd e)
]

from_answer : (rank : ℕ → ℕ) (test : ℕ → Bool) (n k : ℕ) → IsFirstLeast rank test n k → (o : Option ℕ) → Answers rank test n o → o ≡ Some k
from_answer rank test n k h None none = absurd (not_both test k (none k h.below) h.passes)
from_answer rank test n k h (Some j) a = ap Some (IsFirstLeast-unique rank test n j k a h)

pub first_least-from : (rank : ℕ → ℕ) (test : ℕ → Bool) (n k : ℕ) → IsFirstLeast rank test n k → first_least rank test n ≡ Some k
first_least-from rank test n k h = from_answer rank test n k h (first_least rank test n) (first_least-is rank test n)

none_answer : (rank : ℕ → ℕ) (test : ℕ → Bool) (n : ℕ) → NonePasses test n → (o : Option ℕ) → Answers rank test n o → o ≡ None
none_answer rank test n h None none = refl
none_answer rank test n h (Some j) a = absurd (not_both test j (h j a.below) a.passes)

pub first_least-none : (rank : ℕ → ℕ) (test : ℕ → Bool) (n : ℕ) → NonePasses test n → first_least rank test n ≡ None
first_least-none rank test n h = none_answer rank test n h (first_least rank test n) (first_least-is rank test n)
