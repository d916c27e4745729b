-- The last number below another that passes, kept from step to step of a sweep.
use Rattle.std.proofs.Common.{◌≡◌, ℕ, zero, suc, ◌+◌, ◌*◌, ◌-◌, ◌%◌, ◌<◌, ◌≤◌, Bool, true, false, nat_le, inl, inr, refl, sym, ◌∙◌, ap, arith, List, length, Option, Some, None}
use Rattle.std.specs.Option.{MatchOption}
use Rattle.std.proofs.lemmas.Bool.{cases_eq, cases_Bool, false≢true}
use Rattle.std.proofs.lemmas.Nat.{mul-add-lt}
use Rattle.page_model.specs.Marks.{Marked, stored_rows}
use Rattle.column_scan.specs.Sweep.{passes, or_keep, last_below, first_before, row_edge, above_code, nearer_code, row_above, row_below, above_of, column_of}

-- what the last number below n that passes is
abbrev pub LastFact : (ℕ → Bool) → ℕ → Option ℕ → Type 0
LastFact t n o = MatchOption o ((i : ℕ) → i < n → t i ≡ true → ⊥) (λ j. (j < n) × (t j ≡ true) × ((i : ℕ) → j < i → i < n → t i ≡ true → ⊥))

not_both : (b : Bool) → b ≡ false → b ≡ true → ⊥
not_both b f t = false≢true (sym f ∙ t)

last_kept : (t : ℕ → Bool) (n : ℕ) (o : Option ℕ) → t n ≡ false → LastFact t n o → LastFact t (suc n) o
last_kept t n None f h = λ i l p. elim (cases_eq i n) [ inl e ↦ not_both (t n) f (rw e at p) | inr ne ↦ h i (omega (arith, ne)) p ]
last_kept t n (Some j) f h = (omega (arith, h.0), h.1, λ i a l p. elim (cases_eq i n) [ inl e ↦ not_both (t n) f (rw e at p) | inr ne ↦ h.2 i a (omega (arith, ne)) p ])

pub last_below-is : (t : ℕ → Bool) (n : ℕ) → LastFact t n (last_below t n)
last_below-is t zero = λ i l _. omega (arith, l)
last_below-is t (suc n) = elim (cases_Bool (t n)) [
  | inl p ↦ rw p (omega arith, p, λ i a l _. omega (arith, a, l))
  | inr f ↦ rw f (last_kept t n (last_below t n) f (last_below-is t n))
]

-- what the first number from `from` on and below n that passes is
abbrev pub NextFact : (ℕ → Bool) → ℕ → ℕ → Option ℕ → Type 0
NextFact t from n o = MatchOption o ((i : ℕ) → from ≤ i → i < n → t i ≡ true → ⊥) (λ j. (from ≤ j) × (j < n) × (t j ≡ true) × ((i : ℕ) → from ≤ i → i < j → t i ≡ true → ⊥))

next_kept : (t : ℕ → Bool) (from n : ℕ) (o : Option ℕ) → t from ≡ false → NextFact t (from + 1) n o → NextFact t from n o
next_kept t from n None f h = λ i a l p. elim (cases_eq i from) [ inl e ↦ not_both (t from) f (rw e at p) | inr ne ↦ h i (omega (arith, ne)) l p ]
next_kept t from n (Some j) f h = (omega (arith, h.0), h.1, h.2, λ i a l p. elim (cases_eq i from) [ inl e ↦ not_both (t from) f (rw e at p) | inr ne ↦ h.3 i (omega (arith, ne)) l p ])

next_step : (t : ℕ → Bool) (from n : ℕ) (o : Option ℕ) → from < n → NextFact t (from + 1) n o → NextFact t from n (or_keep (t from) from o)
next_step t from n o l h = elim (cases_Bool (t from)) [
  | inl p ↦ rw p (omega arith, l, p, λ i a b _. omega (arith, a, b))
  | inr f ↦ rw f (next_kept t from n o f h)
]

pub first_before-is : (t : ℕ → Bool) (n k : ℕ) → k ≤ n → NextFact t (n - k) n (first_before t n k)
first_before-is t n zero le = λ i a l _. omega (arith, a, l)
first_before-is t n (suc k) le =
    let e : n - suc k + 1 ≡ n - k = omega arith in
    next_step t (n - suc k) n (first_before t n k) (omega arith) (rw e (first_before-is t n k (omega arith)))

-- an edge that is not below row r, and one that is
above_from : (x2 r : ℕ) (t : ℕ → Bool) (o : Option ℕ) → LastFact t (r + x2 % 2) o → MatchOption o (0 ≤ r) (λ j. row_edge x2 j ≤ 2 * r)
above_from x2 r t None h = omega arith
above_from x2 r t (Some j) h = omega (arith, h.0)

pub row_above-above : (m : Marked) (x2 r : ℕ) (o : Option ℕ) → o ≡ row_above m x2 r → MatchOption o (0 ≤ r) (λ j. row_edge x2 j ≤ 2 * r)
row_above-above m x2 r o e = rw e (above_from x2 r (passes m x2) _ (last_below-is (passes m x2) (r + x2 % 2)))

below_from : (x2 r n : ℕ) (t : ℕ → Bool) (o : Option ℕ) → n ≤ 16384 → NextFact t (r + x2 % 2) n o → MatchOption o (0 ≤ r) (λ j. (2 * r ≤ row_edge x2 j) × (j ≤ 16384))
below_from x2 r n t None low h = omega arith
below_from x2 r n t (Some j) low h = (omega (arith, h.0), omega (arith, h.1))

pub row_below-is : (m : Marked) (x2 r : ℕ) → r < stored_rows m → NextFact (passes m x2) (r + x2 % 2) (stored_rows m) (row_below m x2 r)
row_below-is m x2 r l =
    let e : stored_rows m - (stored_rows m - (r + x2 % 2)) ≡ r + x2 % 2 = omega arith in
    rw e at (first_before-is (passes m x2) (stored_rows m) (stored_rows m - (r + x2 % 2)) (omega arith))

pub row_below-below : (m : Marked) (x2 r : ℕ) (o : Option ℕ) → stored_rows m ≤ 16384 → r < stored_rows m → o ≡ row_below m x2 r → MatchOption o (0 ≤ r) (λ j. (2 * r ≤ row_edge x2 j) × (j ≤ 16384))
row_below-below m x2 r o low l e = rw e (below_from x2 r (stored_rows m) (passes m x2) _ low (row_below-is m x2 r l))

code_fits : (x2 r reach : ℕ) (o : Option ℕ) → MatchOption o (0 ≤ r) (λ j. row_edge x2 j ≤ 2 * r) → above_code x2 r reach o ≤ 257
code_fits x2 r reach None h = omega arith
code_fits x2 r reach (Some j) h = elim (cases_Bool (nat_le (2 * r) (row_edge x2 j + reach))) [ inl t ↦ rw t (omega (arith, h)) | inr f ↦ rw f (omega arith) ]

pub above_of-fits : (m : Marked) (x2 reach r : ℕ) → above_of m x2 reach r ≤ 257
unfolding above_of
above_of-fits m x2 reach r = code_fits x2 r reach _ (row_above-above m x2 r _ refl)

pub above_of-is : (m : Marked) (x2 reach r : ℕ) (o : Option ℕ) (code : ℕ) → o ≡ row_above m x2 r → code ≡ above_code x2 r reach o → code ≡ above_of m x2 reach r
unfolding above_of
above_of-is m x2 reach r o code eo ec = ec ∙ ap (above_code x2 r reach) eo

pub column_of-is : (m : Marked) (x2 reach r above : ℕ) (o : Option ℕ) (code : ℕ) → o ≡ row_below m x2 r → above ≡ above_of m x2 reach r → code ≡ nearer_code x2 r reach above o → code ≡ column_of m x2 reach r
unfolding column_of
column_of-is m x2 reach r above o code eo ea ec = ec ∙ ap (λ (a : ℕ). nearer_code x2 r reach a o) ea ∙ ap (nearer_code x2 r reach (above_of m x2 reach r)) eo

-- slots

pub slot_in : (out : List ℕ) (n rows r x : ℕ) → length out ≡ rows * n → r < rows → x < n → r * n + x < length out
slot_in out n rows r x e lr lx = omega (arith, e, mul-add-lt r n x rows lr lx)
