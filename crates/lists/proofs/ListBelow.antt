-- The list of a function's answers below a bound: its length, its items, and what is told of each.
use Rattle.std.proofs.Common.{◌≡◌, ℕ, zero, suc, ◌+◌, ◌<◌, List, [], ◌∷◌, ◌++◌, length, arith, refl, ap, sym, ◌∙◌, inl, inr, append_assoc, add-zero, add-suc, subst}
use Rattle.std.specs.List.{All}
use Rattle.std.specs.Prelude.{slice_index_or}
use Rattle.std.proofs.lemmas.Bool.{cases_eq}
use Rattle.std.proofs.lemmas.List.{get_or_push, get_or_append_left, length-append, ext_get_or, append-nil}
use Rattle.lists.specs.Words.{list_below}

pub length-list_below : {X : Type 0} (f : ℕ → X) (n : ℕ) → length (list_below f n) ≡ n
length-list_below f zero = refl
length-list_below f (suc n) = omega (arith, length-append (list_below f n) (f n ∷ []), length-list_below f n)

-- a read below the end
pub list_below-at : {X : Type 0} (f : ℕ → X) (n k : ℕ) (d : X) → k < n → slice_index_or (list_below f n) k d ≡ f k
list_below-at f zero k d l = let e : ⊥ = omega (arith, l) in absurd e
list_below-at f (suc n) k d l = elim (cases_eq k n) [
  | inl e ↦ get_or_push (list_below f n) (f n) d k (length-list_below f n ∙ sym e) ∙ ap f (sym e)
  | inr ne ↦ get_or_append_left (list_below f n) (f n ∷ []) d k (omega (arith, ne, l, length-list_below f n)) ∙ list_below-at f n k d (omega (arith, ne, l))
]

pub list_below-add : {X : Type 0} (f : ℕ → X) (n m : ℕ) → list_below f (n + m) ≡ list_below f n ++ list_below (λ i. f (n + i)) m
list_below-add f n zero = rw add-zero (sym (append-nil (list_below f n)))
list_below-add f n (suc m) = rw (add-suc, list_below-add f n m) (append_assoc (list_below f n) (list_below (λ i. f (n + i)) m) (f (n + m) ∷ []))

-- a list that has these items
pub list_below-of : {X : Type 0} (d : X) (f : ℕ → X) (n : ℕ) (xs : List X) → length xs ≡ n → ((k : ℕ) → k < n → slice_index_or xs k d ≡ f k) → xs ≡ list_below f n
list_below-of d f n xs long each = ext_get_or d xs (list_below f n) (long ∙ sym (length-list_below f n)) (λ k l. each k (omega (arith, l, long)) ∙ sym (list_below-at f n k d (omega (arith, l, long))))

pub list_below-from : (f : ℕ → ℕ) (n : ℕ) (xs : List ℕ) → length xs ≡ n → ((k : ℕ) → k < n → slice_index_or xs k 0 ≡ f k) → xs ≡ list_below f n
list_below-from = list_below-of 0

-- a fact of each number's item is one of every item of the list
pub all_below : {X : Type 0} (Fact : X → Type 0) (f : ℕ → X) (n : ℕ) → ((k : ℕ) → k < n → Fact (f k)) → All Fact (list_below f n)
all_below Fact f n each = λ k d here. (let l : k < n = omega (arith, here, length-list_below f n) in subst Fact (sym (list_below-at f n k d l)) (each k l))
