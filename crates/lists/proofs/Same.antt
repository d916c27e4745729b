-- Functions and tests that agree below a bound give the same list, and the same first of the least rank.
use Rattle.std.proofs.Common.{◌≡◌, ◌≢◌, ℕ, zero, suc, ◌<◌, Bool, true, ◌&&◌, [], ◌∷◌, ◌++◌, arith, refl, ap, sym, ◌∙◌, inl, inr, get_or-set_same, get_or-set_other, length-set}
use Rattle.std.specs.Prelude.{slice_index_or, slice_set, Option, Some, None, if◌then◌else◌}
use Rattle.std.specs.Option.{option_map}
use Rattle.std.proofs.lemmas.Bool.{cases_eq}
use Rattle.std.proofs.lemmas.List.{ext_get_or}
use Rattle.lists.specs.Words.{list_below, first_least, beats, IsFirstLeast}
use Rattle.lists.proofs.FirstLeast.{Answers, first_least-is, first_least-from, first_least-none}
use Rattle.lists.proofs.ListBelow.{length-list_below, list_below-at}

pub list_below-same : {X : Type 0} (f g : ℕ → X) (n : ℕ) → ((k : ℕ) → k < n → f k ≡ g k) → list_below f n ≡ list_below g n
list_below-same f g zero each = refl
list_below-same f g (suc n) each = λ i. list_below-same f g n (λ k l. each k (omega (arith, l))) i ++ each n (omega arith) i ∷ []

-- a list of a function's answers with one changed
pub list_below-set : {X : Type 0} (d : X) (f g : ℕ → X) (n i : ℕ) (x : X) → i < n → g i ≡ x → ((m : ℕ) → m ≢ i → g m ≡ f m) → list_below g n ≡ slice_set (list_below f n) i x
list_below-set d f g n i x l here elsewhere =
    ext_get_or d (list_below g n) (slice_set (list_below f n) i x) (length-list_below g n ∙ sym (length-set (list_below f n) i x ∙ length-list_below f n))
    (λ m q. let inside : m < n = (let t = length-list_below g n in omega (arith, q, t)) in elim (cases_eq m i) [
      | inl e ↦ list_below-at g n m d inside ∙ (ap g e ∙ (here ∙ sym (ap (λ (z : ℕ). slice_index_or (slice_set (list_below f n) i x) z d) e ∙ get_or-set_same (list_below f n) i x d (let t = length-list_below f n in omega (arith, l, t)))))
      | inr ne ↦ list_below-at g n m d inside ∙ (elsewhere m ne ∙ sym (get_or-set_other (list_below f n) i m x d ne ∙ list_below-at f n m d inside))
    ])

-- tests that agree have one first
pub first_least-same : (rank : ℕ → ℕ) (test other : ℕ → Bool) (n : ℕ) → ((j : ℕ) → j < n → test j ≡ other j) → first_least rank test n ≡ first_least rank other n
first_least-same rank test other zero each = refl
first_least-same rank test other (suc n) each = λ i. (let best = first_least-same rank test other n (λ j l. each j (omega (arith, l))) i in if each n (omega arith) i && beats rank n best then Some n else best)

-- and also where ranks agree at what passes; the items that they name may agree there alone
module _ (rank rank' : ℕ → ℕ) (test test' : ℕ → Bool) (n : ℕ) (tests : (j : ℕ) → j < n → test j ≡ test' j) (ranks : (j : ℕ) → j < n → test' j ≡ true → rank j ≡ rank' j) where
  moved : (k : ℕ) → IsFirstLeast rank' test' n k → IsFirstLeast rank test n k
  moved k h = record {
    below = h.below;
    passes = tests k h.below ∙ h.passes;
    least = λ j l p. (let q = sym (tests j l) ∙ p in let a = h.least j l q in omega (arith, a, ranks j l q, ranks k h.below h.passes));
    first = λ j l p. (let m : j < n = omega (arith, l, h.below) in let q = sym (tests j m) ∙ p in let a = h.first j l q in omega (arith, a, ranks j m q, ranks k h.below h.passes));
  }

  same_answer : (o : Option ℕ) → Answers rank' test' n o → first_least rank test n ≡ o
  same_answer None none = first_least-none rank test n (λ j l. tests j l ∙ none j l)
  same_answer (Some k) h = first_least-from rank test n k (moved k h)

  module _ {X : Type 0} (f g : ℕ → X) (items : (j : ℕ) → j < n → test' j ≡ true → f j ≡ g j) where
    mapped : (o : Option ℕ) → Answers rank' test' n o → option_map f o ≡ option_map g o
    mapped None none = refl
    mapped (Some k) h = ap Some (items k h.below h.passes)

    pub first_least-mapped : option_map f (first_least rank test n) ≡ option_map g (first_least rank' test' n)
    first_least-mapped =
        let is = first_least-is rank' test' n in ap (option_map f) (same_answer (first_least rank' test' n) is) ∙ mapped (first_least rank' test' n) is
