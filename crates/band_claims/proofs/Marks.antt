-- The list of the marked pieces.
use Rattle.std.proofs.Common.{◌≡◌, ℕ, zero, suc, ◌+◌, List, [], ◌∷◌, refl, sym, replicate, slice_index, ◌≢◌, ◌<◌, length, set, ap, arith, inl, inr, eq-eqb, ne_eqb, ◌==◌}
use Rattle.std.proofs.lemmas.Bool.{cases_eq}
use Rattle.band_claims.specs.Views.{one_if, times}
use mathlib.Core.Option.{some, some-injective, some-ne-none}
use lib.ListN.{get_elem?}
use Rattle.band_claims.specs.Receipt.{Ascends, marked}

pub marked_none : (n i : ℕ) → marked i (replicate n 0) ≡ []
marked_none zero i = refl
marked_none (suc n) i = marked_none n (i + 1)

-- a word that is read is the word of the list
pub at_word : (words : List ℕ) (i n : ℕ) → get_elem? words i ≡ some n → n ≡ slice_index words i
at_word [] i n e = absurd (some-ne-none n (sym e))
at_word (x ∷ xs) zero n e = sym (some-injective x n e)
at_word (x ∷ xs) (suc i) n e = at_word xs i n e

pub unmarked : (n i : ℕ) → slice_index (replicate n 0) i ≢ 1
unmarked zero i e = omega (arith, e)
unmarked (suc n) zero e = omega (arith, e)
unmarked (suc n) (suc i) e = unmarked n i e

-- one mark more adds its place
pub marked_set : (ms : List ℕ) (n p i : ℕ) → p < length ms → slice_index ms p ≢ 1 → times i (marked n (set ms p 1)) ≡ times i (marked n ms) + one_if (i == n + p)
marked_set [] n p i l ne = absurd (omega (arith, l))
marked_set (m ∷ ms) n zero i l ne = rw (ne_eqb m 1 ne) (omega (arith, ap (λ (k : ℕ). one_if (i == k)) (let e : n ≡ n + 0 = omega arith in e)))
marked_set (m ∷ ms) n (suc p) i l ne =
    let t = marked_set ms (n + 1) p i (omega (arith, l)) ne in
    let e : one_if (i == n + 1 + p) ≡ one_if (i == n + suc p) = ap (λ (k : ℕ). one_if (i == k)) (let q : n + 1 + p ≡ n + suc p = omega arith in q) in
    elim (cases_eq m 1) [
      | inl one ↦ rw (eq-eqb m 1 one) (omega (arith, t, e))
      | inr other ↦ rw (ne_eqb m 1 other) (omega (arith, t, e))
    ]

-- the marked places ascend
from_later : (n : ℕ) (xs : List ℕ) → Ascends (n + 1) xs → Ascends n xs
from_later n [] t = tt
from_later n (x ∷ xs) t = (let l = t.0 in omega (arith, l), t.1)

pub marked-ascends : (ms : List ℕ) (n : ℕ) → Ascends n (marked n ms)
marked-ascends [] n = tt
marked-ascends (m ∷ ms) n = elim (cases_eq m 1) [
  | inl one ↦ rw (eq-eqb m 1 one) (omega arith, marked-ascends ms (n + 1))
  | inr other ↦ rw (ne_eqb m 1 other) (from_later n (marked (n + 1) ms) (marked-ascends ms (n + 1)))
]
