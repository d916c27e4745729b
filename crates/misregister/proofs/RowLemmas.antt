-- A row of a list of rows, place by place.
use Rattle.std.proofs.Common.{◌≡◌, ℕ, zero, suc, ◌+◌, ◌*◌, ◌<◌, ◌≤◌, Bool, true, false, nat_eq, List, length, slice_set, refl, ◌∙◌, inl, inr, arith, add-one, if◌then◌else◌}
use Rattle.std.proofs.lemmas.Bool.{cases_eq}
use Rattle.std.proofs.lemmas.List.{get_or-set_same, get_or-set_other}
use Rattle.std.proofs.lemmas.Nat.{same_from_place}
use Rattle.lists.specs.Words.{any_below}
use Rattle.misregister.specs.Sweep.{bared_until, bit, IsRowSoFar}

pub row_next : (old new next : List ℕ) (columns row : ℕ) (value : ℕ → ℕ) (x v : ℕ) → x < columns → row * columns + x < length new → next ≡ slice_set new (row * columns + x) v → v ≡ value x → IsRowSoFar old new columns row value x → IsRowSoFar old next columns row value (x + 1)
row_next old new next columns row value x v in_row in_list is same so = rw is (record {
  put = λ k l. elim (cases_eq k x) [
    | inl e ↦ rw e (get_or-set_same new (row * columns + x) v 0 in_list ∙ same)
    | inr ne ↦ get_or-set_other new (row * columns + x) (row * columns + k) v 0 (λ e. ne (omega (arith, e))) ∙ so.put k (omega (arith, ne))
  ];
  later = λ k l m. get_or-set_other new (row * columns + x) (row * columns + k) v 0 (λ e. absurd (omega (arith, e))) ∙ so.later k (omega arith) m;
  kept = λ k y l ne. get_or-set_other new (row * columns + x) (y * columns + k) v 0 (λ e. ne (same_from_place y k row x columns l in_row e).0) ∙ so.kept k y l ne;
})

pub bared_until-next : (test : ℕ → Bool) (r n : ℕ) → bared_until test r (n + 1) ≡ (if test n then n + r + 1 else bared_until test r n)
bared_until-next test r n = simp add-one

pub any_below-same : (f g : ℕ → Bool) (n : ℕ) → ((k : ℕ) → k < n → f k ≡ g k) → any_below f n ≡ any_below g n
any_below-same f g zero h = refl
any_below-same f g (suc n) h = rw (any_below-same f g n (λ k l. h k (omega arith)), h n (omega arith)) refl

pub clear_is : (b : Bool) → nat_eq (1 + bit b) 2 ≡ b
clear_is true = refl
clear_is false = refl

pub place_in : (columns row x n : ℕ) → x < columns → (row + 1) * columns ≤ n → row * columns + x < n
place_in columns row x n l fits = omega arith
