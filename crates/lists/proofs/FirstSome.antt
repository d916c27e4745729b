-- What the first answer of several says of each.
use Rattle.std.proofs.Common.{◌≡◌, ℕ, zero, suc, ◌<◌, inl, inr, refl, arith, Option, Some, None}
use Rattle.std.proofs.lemmas.Bool.{cases_eq}
use Rattle.lists.specs.Words.{or_else, first_some}

pub some_is_none : {X : Type 0} (x : X) → Some x ≡ None → ⊥
some_is_none x h = cc

pub both_none : {X : Type 0} (a b : Option X) → or_else a b ≡ None → (a ≡ None) × (b ≡ None)
both_none None b h = (refl, h)
both_none (Some x) b h = absurd (some_is_none x h)

pub each_none : {X : Type 0} (f : ℕ → Option X) (n : ℕ) → first_some f n ≡ None → (c : ℕ) → c < n → f c ≡ None
each_none f zero h c l = let e : ⊥ = omega arith in absurd e
each_none f (suc n) h c l =
    let parts = both_none (first_some f n) (f n) h in
    elim (cases_eq c n) [ inl e ↦ rw e parts.1 | inr ne ↦ each_none f n parts.0 c (omega (arith, ne)) ]

pub all_none : {X : Type 0} (f : ℕ → Option X) (n : ℕ) → ((c : ℕ) → c < n → f c ≡ None) → first_some f n ≡ None
all_none f zero h = refl
all_none f (suc n) h = rw (all_none f n (λ c l. h c (omega arith)), h n (omega arith)) refl
