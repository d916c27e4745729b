-- One more sample of a row is counted.
use Rattle.std.proofs.Common.{◌≡◌, ℕ, zero, suc, ◌+◌, ◌/◌, ◌%◌, ◌<◌, ◌≤◌, ◌^◌, Bool, true, false, ◌&&◌, inl, inr, refl, sym, ◌∙◌, ap, arith, List, length, slice_index, slice_set, if◌then◌else◌, add-one}
use Rattle.std.specs.Prelude.{◌==◌}
use Rattle.std.proofs.lemmas.Bool.{cases_eq, eq-eqb, eqb-true, false_from_ne_true}
use Rattle.std.proofs.lemmas.List.{get_or-set_same, get_or-set_other, length-set}
use Rattle.page_model.specs.declared.parts.At.{At}
use Rattle.sheet_geometry.specs.Areas.{one_if}
use Rattle.sheet_engine.specs.Growth.{Grows, HasWorkspace, row_sum}

abbrev at_ : ℕ → ℕ → At
at_ x y = record { x = x; y = y }

other : (a z : ℕ) → (z ≡ a → ⊥) → (a == z) ≡ false
other a z ne = false_from_ne_true (a == z) (λ p. ne (sym (eqb-true _ _ p)))

-- a count at its own number grows by m, and the others stay
counted : (counts : List ℕ) (a z v : ℕ) (b : Bool) → a < length counts → v ≡ slice_index counts a + one_if b → slice_index (slice_set counts a v) z ≡ slice_index counts z + one_if ((a == z) && b)
counted counts a z v b l ev = elim (cases_eq z a) [
  | inl e ↦ (let t : (a == z) ≡ true = eq-eqb _ _ (sym e) in
      ap (λ (n : ℕ). slice_index (slice_set counts a v) n) e ∙ get_or-set_same counts a v 0 l ∙ ev ∙ (λ i. slice_index counts (sym e i) + one_if (sym t i && b)))
  | inr ne ↦ (let f = other a z ne in get_or-set_other counts a z v 0 ne ∙ (let n : slice_index counts z ≡ slice_index counts z + 0 = omega arith in n) ∙ ap (λ (c : Bool). slice_index counts z + one_if (c && b)) (sym f))
]

pub grows_none : (n y left : ℕ) (f : ℕ → At → ℕ) (counts : List ℕ) → Grows n (λ z. row_sum (f z) y left 0) counts counts
grows_none n y left f counts = record { long = refl; each = λ z l. omega arith }

also_true : (b : Bool) → (b && true) ≡ b
also_true true = refl
also_true false = refl

-- one more sample, which lies in zone a, and is counted if it passes
pub grows_if : (n y left k a v : ℕ) (b : Bool) (of : At → ℕ) (test : At → Bool) (before counts : List ℕ) → length before ≡ n → a ≡ of (at_ (left + k) y) → a < n → b ≡ test (at_ (left + k) y) → v ≡ slice_index counts a + one_if b
    → Grows n (λ z. row_sum (λ p. one_if ((of p == z) && test p)) y left k) before counts → Grows n (λ z. row_sum (λ p. one_if ((of p == z) && test p)) y left (k + 1)) before (slice_set counts a v)
grows_if n y left k a v b of test before counts long ea inside eb ev h = record {
  long = length-set counts a v ∙ h.long;
  each = λ z l. (let step = counted counts a z v b (let e = h.long in omega (arith, e, long, inside)) ev in
      let same : one_if ((a == z) && b) ≡ one_if ((of (at_ (left + k) y) == z) && test (at_ (left + k) y)) = (λ i. one_if ((ea i == z) && eb i)) in
      let more : row_sum (λ p. one_if ((of p == z) && test p)) y left (k + 1) ≡ row_sum (λ p. one_if ((of p == z) && test p)) y left k + one_if ((of (at_ (left + k) y) == z) && test (at_ (left + k) y)) = rw add-one refl in
      let old = h.each z l in omega (arith, step, same, more, old));
}

pub grows_in : (n y left k a v : ℕ) (of : At → ℕ) (before counts : List ℕ) → length before ≡ n → a ≡ of (at_ (left + k) y) → a < n → v ≡ slice_index counts a + 1
    → Grows n (λ z. row_sum (λ p. one_if (of p == z)) y left k) before counts → Grows n (λ z. row_sum (λ p. one_if (of p == z)) y left (k + 1)) before (slice_set counts a v)
grows_in n y left k a v of before counts long ea inside ev h = record {
  long = length-set counts a v ∙ h.long;
  each = λ z l. (let step = counted counts a z v true (let e = h.long in omega (arith, e, long, inside)) ev ∙ ap (λ (c : Bool). slice_index counts z + one_if c) (also_true (a == z)) in
      let same : one_if (a == z) ≡ one_if (of (at_ (left + k) y) == z) = ap (λ (m : ℕ). one_if (m == z)) ea in
      let more : row_sum (λ p. one_if (of p == z)) y left (k + 1) ≡ row_sum (λ p. one_if (of p == z)) y left k + one_if (of (at_ (left + k) y) == z) = rw add-one refl in
      let old = h.each z l in omega (arith, step, same, more, old));
}

pub one_few : (b : Bool) → one_if b ≤ 1
one_few true = omega arith
one_few false = omega arith

pub row_few : (test : At → Bool) (y left n : ℕ) → row_sum (λ p. one_if (test p)) y left n ≤ n
row_few test y left zero = omega arith
row_few test y left (suc n) = omega (arith, row_few test y left n, one_few (test (at_ (left + n) y)))

-- a count in which one more fits
pub fits : (n y left k wide a : ℕ) (f : ℕ → At → Bool) (before counts : List ℕ) → HasWorkspace n wide before → a < n → k < wide → Grows n (λ z. row_sum (λ p. one_if (f z p)) y left k) before counts → (a < length counts) × (slice_index counts a + 1 < 2 ^ 64)
fits n y left k wide a f before counts workspace inside l h =
    let e = h.long in let f' = workspace.long in let low = workspace.low a inside in let each = h.each a inside in let few = row_few (f a) y left k in
    (omega (arith, e, f', inside), omega (arith, low, each, few, l))

-- a sum over a row, one sample further
pub row_next : (f : At → ℕ) (y left k old more : ℕ) → old ≡ row_sum f y left k → more ≡ f (at_ (left + k) y) → old + more ≡ row_sum f y left (k + 1)
row_next f y left k old more eo em = rw add-one (λ i. eo i + em i)

-- the two edges of a mark
pub mark_edges : (r l : Bool) → (one_if r + (if l then 2 else 0)) % 2 + (one_if r + (if l then 2 else 0)) / 2 ≡ one_if r + one_if l
mark_edges true true = refl
mark_edges true false = refl
mark_edges false true = refl
mark_edges false false = refl

-- Samples that all lie in zone a: all that is counted is counted there.
module _ (of : At → ℕ) (test : At → Bool) (y left a z : ℕ) where
  sum_in : (n : ℕ) → ((k : ℕ) → k < n → of (at_ (left + k) y) ≡ a) → (a == z) ≡ true → row_sum (λ p. one_if ((of p == z) && test p)) y left n ≡ row_sum (λ p. one_if (test p)) y left n
  sum_in zero all t = refl
  sum_in (suc n) all t =
      let before = sum_in n (λ k l. all k (omega (arith, l))) t in
      let e = all n (omega arith) in
      let here : one_if ((of (at_ (left + n) y) == z) && test (at_ (left + n) y)) ≡ one_if (test (at_ (left + n) y)) = (λ i. one_if ((e i == z) && test (at_ (left + n) y))) ∙ (λ i. one_if (t i && test (at_ (left + n) y))) in
      λ i. before i + here i

  sum_out : (n : ℕ) → ((k : ℕ) → k < n → of (at_ (left + k) y) ≡ a) → (a == z) ≡ false → row_sum (λ p. one_if ((of p == z) && test p)) y left n ≡ 0
  sum_out zero all f = refl
  sum_out (suc n) all f =
      let before = sum_out n (λ k l. all k (omega (arith, l))) f in
      let e = all n (omega arith) in
      let here : one_if ((of (at_ (left + n) y) == z) && test (at_ (left + n) y)) ≡ 0 = (λ i. one_if ((e i == z) && test (at_ (left + n) y))) ∙ (λ i. one_if (f i && test (at_ (left + n) y))) in
      omega (arith, before, here)

-- the count of their zone grows by m, and the others stay
pub grows_all : (n y left wide a v m : ℕ) (of : At → ℕ) (test : At → Bool) (before : List ℕ) → length before ≡ n → a < n → ((k : ℕ) → k < wide → of (at_ (left + k) y) ≡ a) → m ≡ row_sum (λ p. one_if (test p)) y left wide → v ≡ slice_index before a + m
    → Grows n (λ z. row_sum (λ p. one_if ((of p == z) && test p)) y left wide) before (slice_set before a v)
grows_all n y left wide a v m of test before long inside all em ev = record {
  long = length-set before a v;
  each = λ z l. elim (cases_eq z a) [
    | inl e ↦ (let t : (a == z) ≡ true = eq-eqb _ _ (sym e) in
        ap (λ (k : ℕ). slice_index (slice_set before a v) k) e ∙ get_or-set_same before a v 0 (omega (arith, long, inside)) ∙ ev ∙ (λ i. slice_index before (sym e i) + (em ∙ sym (sum_in of test y left a z wide all t)) i))
    | inr ne ↦ (let f = other a z ne in
        let none = sum_out of test y left a z wide all f in
        let same = get_or-set_other before a z v 0 ne in
        omega (arith, none, same))
  ];
}

all_pass : (of : At → ℕ) (y left z n : ℕ) → row_sum (λ p. one_if ((of p == z) && true)) y left n ≡ row_sum (λ p. one_if (of p == z)) y left n
all_pass of y left z zero = refl
all_pass of y left z (suc n) = λ i. all_pass of y left z n i + one_if (also_true (of (at_ (left + n) y) == z) i)

all_count : (y left n : ℕ) → n ≡ row_sum (λ p. one_if true) y left n
all_count y left zero = refl
all_count y left (suc n) = (let e = all_count y left n in omega (arith, e))

-- the same of samples that are all counted
pub grows_whole : (n y left wide a v : ℕ) (of : At → ℕ) (before : List ℕ) → length before ≡ n → a < n → ((k : ℕ) → k < wide → of (at_ (left + k) y) ≡ a) → v ≡ slice_index before a + wide
    → Grows n (λ z. row_sum (λ p. one_if (of p == z)) y left wide) before (slice_set before a v)
grows_whole n y left wide a v of before long inside all ev =
    let grows = grows_all n y left wide a v wide of (λ p. true) before long inside all (all_count y left wide) ev in
    record { long = grows.long; each = λ z l. grows.each z l ∙ ap (λ (m : ℕ). slice_index before z + m) (all_pass of y left z wide) }
