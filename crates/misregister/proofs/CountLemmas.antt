-- The samples at risk are those whose least shade is 1.
use Rattle.std.proofs.Common.{◌≡◌, ℕ, zero, suc, ◌+◌, ◌*◌, ◌/◌, ◌%◌, ◌<◌, ◌≤◌, Bool, true, false, ◌&&◌, ◌||◌, not, nat_eq, min, List, length, slice_index, take, count_by, refl, sym, ap, ◌∙◌, inl, inr, arith, add-zero, if◌then◌else◌}
use Rattle.std.proofs.Math.Nat.{div-lt_iff_lt-mul, mod-lt}
use Rattle.std.proofs.lemmas.Nat.{div-add-mod'}
use Rattle.std.proofs.lemmas.Bool.{cases_Bool}
use Rattle.std.proofs.Math.Seq.{take-length}
use Rattle.std.proofs.lemmas.List.Sums.{count_by_more_yes, count_by_more_no}
use Rattle.page_model.specs.declared.parts.Plane.{Plane}
use Rattle.lists.specs.Words.{any_below, count_below}
use Rattle.page_model.specs.Shapes.{wide, tall}
use Rattle.misregister.specs.Risk.{all_below, is_outline, can_outline, is_at_risk, risk}
use Rattle.misregister.specs.Sweep.{at, bit, shade, least_shade}

abbrev grade : Bool → Bool → ℕ
grade can inked = if can then (if inked then 1 else 2) else 0

join : (can inked near outline : Bool) → min (grade can inked) (if near then 1 + bit outline else 0) ≡ grade (can && near) (inked || not outline)
join true true true true = refl
join true true true false = refl
join true true false true = refl
join true true false false = refl
join true false true true = refl
join true false true false = refl
join true false false true = refl
join true false false false = refl
join false true true true = refl
join false true true false = refl
join false true false true = refl
join false true false false = refl
join false false true true = refl
join false false true false = refl
join false false false true = refl
join false false false false = refl

least_is : (planes : List Plane) (r x y n : ℕ) → least_shade planes r x y n ≡ grade (all_below (λ c. can_outline planes r c x y) n) (any_below (λ c. not (is_outline planes c x y)) n)
least_is planes r x y zero = refl
least_is planes r x y (suc n) = ap (λ (v : ℕ). min v (shade planes r n x y)) (least_is planes r x y n) ∙ join _ _ (can_outline planes r n x y) (is_outline planes n x y)

grade_one : (can inked : Bool) → nat_eq (grade can inked) 1 ≡ (inked && can)
grade_one true true = refl
grade_one true false = refl
grade_one false true = refl
grade_one false false = refl

one_at_risk : (planes : List Plane) (r x y : ℕ) → nat_eq (least_shade planes r x y (length planes)) 1 ≡ is_at_risk planes r x y
one_at_risk planes r x y = ap (λ (v : ℕ). nat_eq v 1) (least_is planes r x y (length planes)) ∙ grade_one _ _

count_below-same : (f g : ℕ → Bool) (n : ℕ) → ((k : ℕ) → k < n → f k ≡ g k) → count_below f n ≡ count_below g n
count_below-same f g zero h = refl
count_below-same f g (suc n) h = rw (count_below-same f g n (λ k l. h k (omega arith)), h n (omega arith)) refl

count_prefix : (test : ℕ → Bool) (xs : List ℕ) (n : ℕ) → n ≤ length xs → count_by test (take n xs) ≡ count_below (λ k. test (slice_index xs k)) n
count_prefix test xs zero h = refl
count_prefix test xs (suc n) h =
    let before = count_prefix test xs n (omega arith) in
    let order : suc n ≡ n + 1 = omega arith in
    ap (λ (i : ℕ). count_by test (take i xs)) order ∙ (elim (cases_Bool (test (slice_index xs n))) [
      | inl t ↦ count_by_more_yes test xs n 0 (omega arith) t ∙ ap (λ (v : ℕ). v + 1) before ∙ sym (ap (λ (b : Bool). count_below (λ k. test (slice_index xs k)) n + (if b then 1 else 0)) t)
      | inr f ↦ count_by_more_no test xs n 0 (omega arith) f ∙ before ∙ sym (ap (λ (b : Bool). count_below (λ k. test (slice_index xs k)) n + (if b then 1 else 0)) f ∙ add-zero _)
    ])

-- a list's items that pass are counted by their places
count_places : (test : ℕ → Bool) (xs : List ℕ) → count_by test xs ≡ count_below (λ k. test (slice_index xs k)) (length xs)
count_places test xs = sym (ap (count_by test) (take-length xs)) ∙ count_prefix test xs (length xs) (omega arith)

shade_at : (planes : List Plane) (r : ℕ) (shades : List ℕ) → 0 < wide planes → ((x y : ℕ) → x < wide planes → y < tall planes → at shades (wide planes) y x ≡ least_shade planes r x y (length planes))
    → (k : ℕ) → k < wide planes * tall planes → nat_eq (slice_index shades k) 1 ≡ is_at_risk planes r (k % wide planes) (k / wide planes)
shade_at planes r shades some each k l =
    let w = wide planes in
    let place : k / w * w + k % w ≡ k = div-add-mod' k w in
    let down : k / w < tall planes = (div-lt_iff_lt-mul some).1 (omega (arith, l)) in
    ap (λ (i : ℕ). nat_eq (slice_index shades i) 1) (sym place) ∙ ap (λ (v : ℕ). nat_eq v 1) (each (k % w) (k / w) (mod-lt k some) down) ∙ one_at_risk planes r (k % w) (k / w)

pub risk_by : (planes : List Plane) (r : ℕ) (shades : List ℕ) → 0 < wide planes → length shades ≡ wide planes * tall planes
    → ((x y : ℕ) → x < wide planes → y < tall planes → at shades (wide planes) y x ≡ least_shade planes r x y (length planes))
    → count_by (λ s. nat_eq s 1) shades ≡ risk planes r
risk_by planes r shades some long each =
    count_places (λ s. nat_eq s 1) shades ∙ ap (count_below (λ k. nat_eq (slice_index shades k) 1)) long
    ∙ count_below-same _ _ (wide planes * tall planes) (shade_at planes r shades some each)
