-- Lists that are filled row by row, and tests of any number below a bound.
use Rattle.std.proofs.Common.{◌≡◌, ℕ, zero, suc, ◌+◌, ◌*◌, ◌<◌, ◌≤◌, ◌-◌, min, Bool, true, false, ◌&&◌, nat_le, List, length, slice_index, slice_set, refl, sym, subst, ap, ◌∙◌, inl, inr, arith}
use Rattle.std.proofs.lemmas.Bool.{cases_eq, cases_lt}
use Rattle.std.proofs.lemmas.Nat.{mul-add-lt}
use Rattle.std.proofs.lemmas.Bool.Decides.{nat_tests}
use Rattle.std.proofs.lemmas.List.{get_or-set_same, get_or-set_other}
use Rattle.lists.specs.Words.{any_below, gap}
use Rattle.lists.proofs.AnyBelow.{any_below-from}
use Rattle.page_model.specs.declared.parts.At.{At}
use Rattle.page_model.specs.declared.parts.PageParts.{PageParts}
use Rattle.page_model.specs.Conditions.{IsPage}
use Rattle.page_model.specs.Page.{height, plates, width}
use Rattle.page_model.specs.Planes.{plane_at}
use Rattle.page_model.proofs.PageLemmas.{plane_of}
use Rattle.keepaway.specs.Rows.{HasRows, IsRow}

-- a list before its first row is written
pub rows_none : (page : PageParts) (value : At → ℕ) (list : List ℕ) → length list ≡ width page * height page → HasRows page value 0 list
rows_none page value list long = record { long = long; each = λ x y l m. absurd (omega arith) }

-- one more row is put into the list
pub rows_next : (page : PageParts) (value : At → ℕ) (y : ℕ) (old new row : List ℕ) → HasRows page value y old → IsRow page value y row → ((x : ℕ) → x < length row → slice_index new (y * length row + x) ≡ slice_index row x) → ((i : ℕ) → i < y * length row → slice_index new i ≡ slice_index old i) → length new ≡ length old → HasRows page value (y + 1) new
rows_next page value y old new row so is there above long = record {
  long = long ∙ so.long;
  each = λ x k l m. elim (cases_eq k y) [
    | inl e ↦ rw (e, ← is.long) (there x (omega (arith, l, is.long)) ∙ is.each x l)
    | inr ne ↦
        let less : k < y = omega (arith, m, ne) in
        let before : k * width page + x < y * width page = omega (arith, mul-add-lt k (width page) x y less l) in
        above (k * width page + x) (subst (λ (n : ℕ). k * width page + x < y * n) (sym is.long) before) ∙ so.each x k l less
  ];
}

-- the rows of a list, as rows of their own
pub row_is : (page : PageParts) (value : At → ℕ) (y : ℕ) (list row : List ℕ) → HasRows page value (height page) list → y < height page → length row ≡ width page → ((x : ℕ) → x < width page → slice_index row x ≡ slice_index list (y * width page + x)) → IsRow page value y row
row_is page value y list row so inside long each = record { long = long; each = λ x l. each x l ∙ so.each x y l inside }

-- no number passes
pub any_below-not : (test : ℕ → Bool) (n : ℕ) → ((k : ℕ) → k < n → test k ≡ false) → any_below test n ≡ false
any_below-not test zero none = refl
any_below-not test (suc n) none = rw (any_below-not test n (λ k l. none k (omega arith)), none n (omega arith)) refl

-- a number beside x passes
pub near_some : (x n : ℕ) (hit : ℕ → Bool) (k : ℕ) → k < n → gap x k ≤ 1 → hit k ≡ true → any_below (λ k. nat_le (gap x k) 1 && hit k) n ≡ true
near_some x n hit k inside near passes = any_below-from (λ k. nat_le (gap x k) 1 && hit k) n k inside (both_true (nat_le (gap x k) 1) (hit k) (nat_le_is (gap x k) 1 near) passes)
  where
    both_true : (a b : Bool) → a ≡ true → b ≡ true → (a && b) ≡ true
    both_true true b p q = q
    both_true false b p q = p

    nat_le_is : (a b : ℕ) → a ≤ b → nat_le a b ≡ true
    nat_le_is a b l = grind (arith, nat_tests)

-- no number beside x passes
pub near_none : (x n first last : ℕ) (hit : ℕ → Bool) → first ≡ x - 1 → last ≡ min (x + 2) n → ((k : ℕ) → first ≤ k → k < last → hit k ≡ false) → any_below (λ k. nat_le (gap x k) 1 && hit k) n ≡ false
near_none x n first last hit begun ended none = any_below-not (λ k. nat_le (gap x k) 1 && hit k) n (λ k inside. elim (cases_lt 1 (gap x k)) [
  | inl far ↦ left_false (nat_le (gap x k) 1) (hit k) (not_le (gap x k) 1 far)
  | inr near ↦ right_false (nat_le (gap x k) 1) (hit k) (none k (omega arith) (omega arith))
])
  where
    left_false : (a b : Bool) → a ≡ false → (a && b) ≡ false
    left_false true b p = absurd (cc)
    left_false false b p = refl

    right_false : (a b : Bool) → b ≡ false → (a && b) ≡ false
    right_false true b p = p
    right_false false b p = refl

    not_le : (a b : ℕ) → b < a → nat_le a b ≡ false
    not_le a b l = grind (arith, nat_tests)

-- one more entry of a row is put
pub entry_next : (old new : List ℕ) (value : ℕ → ℕ) (x v : ℕ) → x < length new → v ≡ value x → ((i : ℕ) → i < x → slice_index new i ≡ value i) → (i : ℕ) → i < x + 1 → slice_index (slice_set new x v) i ≡ value i
entry_next old new value x v inside is done i l = elim (cases_eq i x) [
  | inl e ↦ rw e (get_or-set_same new x v 0 inside ∙ is)
  | inr ne ↦ get_or-set_other new x i v 0 ne ∙ done i (omega (arith, ne))
]

-- and the later ones are as they were
pub entry_later : (old new : List ℕ) (x v : ℕ) → ((i : ℕ) → x ≤ i → slice_index new i ≡ slice_index old i) → (i : ℕ) → x + 1 ≤ i → slice_index (slice_set new x v) i ≡ slice_index old i
entry_later old new x v later i l = get_or-set_other new x i v 0 (λ e. absurd (omega (arith, e))) ∙ later i (omega arith)

-- tests that agree below the bound
pub any_below-same : (f g : ℕ → Bool) (n : ℕ) → ((k : ℕ) → k < n → f k ≡ g k) → any_below f n ≡ any_below g n
any_below-same f g zero h = refl
any_below-same f g (suc n) h = rw (any_below-same f g n (λ k l. h k (omega arith)), h n (omega arith)) refl

-- a plane of the page has a tint for each pixel
pub plane_long : (page : PageParts) (c : ℕ) → IsPage page → c < plates page → length (plane_at page.planes c).tints ≡ width page * height page
plane_long page c valid l = (plane_of page c valid l).full ∙ ap (λ (w : ℕ). w * (plane_at page.planes c).height) (valid.agree c l).wide ∙ ap (λ (h : ℕ). width page * h) (valid.agree c l).tall
