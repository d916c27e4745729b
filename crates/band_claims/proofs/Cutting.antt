-- Where the values of a cell begin, and that they fit.
use Rattle.std.proofs.Common.{◌≡◌, ℕ, zero, suc, refl, ◌+◌, ◌-◌, ◌*◌, ◌^◌, ◌<◌, ◌≤◌, List, length, replicate, subst, sym, ap, ◌∙◌, arith, inl, inr, ne_eqb}
use Rattle.std.specs.Prelude.{slice_index, slice_index_or, min}
use Rattle.std.proofs.lemmas.Bool.{cases_eq}
use Rattle.std.proofs.lemmas.Nat.{div_below}
use Rattle.std.proofs.lemmas.List.{get_or_default, get_or-replicate, length-replicate}
use Rattle.std.proofs.Math.Nat.{mul-le-mul_right}
use Rattle.page_model.specs.Bands.{phase_of, band_of, ceiling, rows_in}
use Rattle.page_model.proofs.BandLemmas.{ceiling-below}
use Rattle.band_core.specs.Layouts.{Layout, IsLayout}
use Rattle.band_core.specs.Places.{piece_count, per_row, value_total, cell_total, lanes_of, bits_of, first_cell_of}
use Rattle.band_core.specs.Packing.{packed}
use Rattle.band_core.proofs.Places.{some_lanes, rows_fit, per_row_few}
use Rattle.band_core.specs.Values.{value}
use Rattle.band_core.proofs.Bridges.{cell_packs, fits}
use Rattle.band_claims.specs.declared.table_key.TableKey.{TableKey}
use Rattle.band_claims.specs.TableKeys.{cell, IsFit}
use Rattle.band_claims.specs.Filled.{AreValues, IsCut}

begins : (v l o : ℕ) → 1 ≤ l → o < ceiling v l → o * l < v
begins v l o some m = elim (cases_eq v 0) [
  | inl e ↦ (let none : ceiling v l < 1 = div_below (v + l - 1) l 1 some (omega (arith, e, some)) in absurd (omega (arith, none, m)))
  | inr there ↦ ceiling-below v l o some (omega (arith, there)) m
]

pub cell_begins : (layout : Layout) (i o : ℕ) → o < cell_total layout i → o * lanes_of (phase_of layout.bands i) < value_total layout i
unfolding cell_total
cell_begins layout i o m = begins (value_total layout i) (lanes_of (phase_of layout.bands i)) o (some_lanes (phase_of layout.bands i)) m

row_few : (layout : Layout) (phase : ℕ) → IsLayout layout → per_row layout phase ≤ 262144
row_few layout phase is = let w = is.narrow in elim (cases_eq phase 2) [
  | inl two ↦ rw two (omega (arith, w))
  | inr n2 ↦ elim (cases_eq phase 3) [ inl three ↦ rw three (per_row_few layout.plates layout.width is.few_plates w) | inr n3 ↦ rw (ne_eqb phase 2 n2, ne_eqb phase 3 n3) (omega (arith, w)) ]
]

pub few_values : (layout : Layout) (i : ℕ) → IsLayout layout → value_total layout i ≤ 1073741824
few_values layout i is = let low = is.bands.low in rows_fit (rows_in layout.bands (band_of layout.bands i)) (per_row layout (phase_of layout.bands i)) (omega (arith, low)) (row_few layout (phase_of layout.bands i) is)

-- where cell o of a piece begins in its values
pub cell_at : (layout : Layout) (i o n : ℕ) → IsLayout layout → o < cell_total layout i → n ≡ lanes_of (phase_of layout.bands i) → (o * n < value_total layout i) × (value_total layout i ≤ 1073741824)
cell_at layout i o n is m e = (subst (λ (z : ℕ). o * z < value_total layout i) (sym e) (cell_begins layout i o m), few_values layout i is)

-- the values of cell o of a piece, cut out of all its values
pub record AreCellValues (table_key : TableKey) (i o phase first count : ℕ) (values vs : List ℕ) : Type 0 where
  pub piece : i < piece_count table_key.layout
  pub cell : o < cell_total table_key.layout i
  pub cut : IsCut table_key.layout i o phase first count
  pub all : AreValues table_key i values
  pub long : length vs ≡ count
  pub each : (l : ℕ) → l < length vs → slice_index vs l ≡ slice_index values (first + l)

-- packed, they are the cell
pub packs : (table_key : TableKey) (i o phase first count bits : ℕ) (values vs : List ℕ) → AreCellValues table_key i o phase first count values vs → bits ≡ bits_of phase → 1 + packed bits vs ≡ cell table_key (first_cell_of table_key.layout i + o)
unfolding cell
packs table_key i o phase first count bits values vs are b =
    let p = are.cut.same_phase in let few = are.cut.few in let inside = are.cut.inside in let long = are.long in let all = are.all.long in
    let start : first ≡ o * lanes_of (phase_of table_key.layout.bands i) = are.cut.begins ∙ ap (λ (q : ℕ). o * lanes_of q) p in
    ap (λ (z : ℕ). 1 + packed z vs) (b ∙ ap bits_of p)
    ∙ cell_packs table_key.page.value table_key.layout i o vs are.piece are.cell
    (long ∙ (few ∙ (ap (λ (q : ℕ). min (lanes_of q) (value_total table_key.layout i - first)) p ∙ ap (λ (z : ℕ). min (lanes_of (phase_of table_key.layout.bands i)) (value_total table_key.layout i - z)) start)))
    (λ l m. are.each l m ∙ (are.all.each (first + l) (omega (arith, m, long, few, inside, all)) ∙ ap (λ (z : ℕ). value table_key.page.value table_key.layout i (z + l)) start))

-- and they fit their lanes
pub small : (table_key : TableKey) → IsFit table_key → (i o phase first count bits : ℕ) (values vs : List ℕ) → AreCellValues table_key i o phase first count values vs → bits ≡ bits_of phase → (k d : ℕ) → k < length vs → slice_index_or vs k d < 2 ^ bits
small table_key fit i o phase first count bits values vs are b k d l =
    let few = are.cut.few in let inside = are.cut.inside in let long = are.long in let all = are.all.long in
    let here : first + k < value_total table_key.layout i = omega (arith, l, long, few, inside) in
    let is = are.each k l ∙ are.all.each (first + k) (omega (arith, here, all)) in
    rw (b ∙ ap bits_of are.cut.same_phase, get_or_default vs k d 0 l) (subst (λ (z : ℕ). z < 2 ^ bits_of (phase_of table_key.layout.bands i)) (sym is) (fits table_key.page.value table_key.layout i (first + k) fit are.piece here))

-- the values of a cell are among those of so many cells from an earlier one on
pub within_span : (first k n j : ℕ) → k < 16 → (first + k) * n ≤ j → j < (first + k) * n + n → (first * n ≤ j) × (j < first * n + 16 * n)
within_span first k n j few from below =
    let a : (first + k) * n ≡ first * n + k * n = grind arith in let b : (k + 1) * n ≡ k * n + n = grind arith in
    let most : (k + 1) * n ≤ 16 * n = mul-le-mul_right n (omega (arith, few)) in (omega (arith, a, from), omega (arith, a, b, most, below))

none_packed : (bits n : ℕ) → packed bits (replicate n 0) ≡ 0
none_packed bits zero = refl
none_packed bits (suc n) = omega (arith, ap (λ (p : ℕ). 2 ^ bits * p) (none_packed bits n))

-- a cell whose values are all 0
pub zero_cell : (table_key : TableKey) (i o phase : ℕ) (values : List ℕ) → i < piece_count table_key.layout → o < cell_total table_key.layout i → phase ≡ phase_of table_key.layout.bands i → lanes_of phase ≤ 31 → AreValues table_key i values
    → ((j : ℕ) → o * lanes_of phase ≤ j → j < o * lanes_of phase + lanes_of phase → j < length values → slice_index values j ≡ 0) → cell table_key (first_cell_of table_key.layout i + o) ≡ 1
zero_cell table_key i o phase values l m same few all zeros =
    let first : ℕ = o * lanes_of phase in let count : ℕ = min (lanes_of phase) (value_total table_key.layout i - first) in let vs : List ℕ = replicate count 0 in
    let inside : first < value_total table_key.layout i = subst (λ (z : ℕ). o * lanes_of z < value_total table_key.layout i) (sym same) (cell_begins table_key.layout i o m) in
    let long : length vs ≡ count = length-replicate count 0 in let whole = all.long in
    let are : AreCellValues table_key i o phase first count values vs = record {
      piece = l;
      cell = m;
      cut = record { same_phase = same; begins = refl; inside = inside; few = refl; fits = omega (arith, few) };
      all = all;
      long = long;
      each = λ q b. get_or-replicate count q 0 0 (omega (arith, b, long)) ∙ sym (zeros (first + q) (omega arith) (omega (arith, b, long)) (omega (arith, b, long, whole, inside)));
    } in
    sym (packs table_key i o phase first count (bits_of phase) values vs are refl) ∙ ap (λ (z : ℕ). 1 + z) (none_packed (bits_of phase) count)
