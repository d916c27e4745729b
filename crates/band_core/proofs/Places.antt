-- Where the cells of pieces stand.
use Rattle.std.proofs.Common.{◌≡◌, ℕ, zero, suc, ◌+◌, ◌-◌, ◌*◌, ◌/◌, ◌<◌, ◌≤◌, ◌^◌, sym, ap, ◌∙◌, subst, arith, inl, inr, suc-mul, mul-le-mul_right}
use Rattle.std.proofs.lemmas.Bool.{cases_eq, ne_eqb}
use Rattle.std.proofs.lemmas.Nat.{mul-le, le-div}
use Rattle.std.proofs.Math.Nat.{mul-le-mul_left, div-mul-le_self}
use Rattle.page_model.specs.Bands.{AreBands, ceiling, rows_in, phase_of, band_of, piece_of}
use Rattle.page_model.proofs.BandLemmas.{band_begins, band-less, phase_of_piece, band_of_piece}
use Rattle.band_core.specs.Layouts.{Layout, IsLayout}
use Rattle.band_core.specs.Most.{most_cells, most_before}
use Rattle.band_core.specs.Places.{HasCell, piece_count, per_row, lanes_of, cells_in, value_total, cell_total, first_cell_of, cells_of, piece_of_cell}
use Rattle.band_core.proofs.Sums.{sum_next, run_of, run_of-is}

pub per_row_few : (plates width : ℕ) → plates ≤ 16 → width ≤ 16384 → plates * width ≤ 262144
per_row_few plates width p w = let t = mul-le plates width 16 16384 p w in omega (arith, t)

pub rows_fit : (rows per : ℕ) → rows ≤ 4096 → per ≤ 262144 → rows * per ≤ 1073741824
rows_fit rows per r p = let t = mul-le rows per 4096 262144 r p in omega (arith, t)

pub some_lanes : (phase : ℕ) → 1 ≤ lanes_of phase
some_lanes phase = elim (cases_eq phase 0) [
  | inl e ↦ rw e (omega arith)
  | inr n0 ↦ elim (cases_eq phase 1) [
    | inl e ↦ rw e (omega arith)
    | inr n1 ↦ elim (cases_eq phase 2) [ inl e ↦ rw e (omega arith) | inr n2 ↦ rw (ne_eqb phase 0 n0, ne_eqb phase 1 n1, ne_eqb phase 2 n2) (omega arith) ]
  ]
]

pub total-at : (layout : Layout) (phase band : ℕ) → band < layout.bands.count → cell_total layout (phase * layout.bands.count + band) ≡ cells_in layout phase (rows_in layout.bands band)
unfolding cell_total
total-at layout phase band l =
    ap (λ (b : ℕ). ceiling (rows_in layout.bands b * per_row layout (phase_of layout.bands (piece_of layout.bands phase band))) (lanes_of (phase_of layout.bands (piece_of layout.bands phase band)))) (band_of_piece layout.bands phase band l)
    ∙ ap (λ (q : ℕ). ceiling (rows_in layout.bands band * per_row layout q) (lanes_of q)) (phase_of_piece layout.bands phase band l)

-- a band that is not the last is whole
pub whole_band : (layout : Layout) (band : ℕ) → AreBands layout.bands → band + 1 < layout.bands.count → rows_in layout.bands band ≡ layout.bands.height
whole_band layout band is l = let t = band_begins layout.bands (band + 1) is l in let e : (band + 1) * layout.bands.height ≡ band * layout.bands.height + layout.bands.height = grind arith in omega (arith, t, e)

pub before_band : (layout : Layout) (phase band : ℕ) → AreBands layout.bands → band < layout.bands.count
    → first_cell_of layout (phase * layout.bands.count + band) ≡ first_cell_of layout (phase * layout.bands.count) + band * cells_in layout phase layout.bands.height
before_band layout phase zero is l = let e = ap (first_cell_of layout) (let t : phase * layout.bands.count + 0 ≡ phase * layout.bands.count = omega arith in t) in omega (arith, e)
before_band layout phase (suc band) is l =
    let whole = whole_band layout band is (omega (arith, l)) in
    let e = ap (first_cell_of layout) (let t : phase * layout.bands.count + suc band ≡ (phase * layout.bands.count + band) + 1 = omega arith in t) in
    let s = sum_next (cell_total layout) (phase * layout.bands.count + band) in
    let here = total-at layout phase band (omega (arith, l)) ∙ ap (cells_in layout phase) whole in
    omega (arith, e, s, here, before_band layout phase band is (omega (arith, l)), suc-mul band (cells_in layout phase layout.bands.height))

pub after_phase : (layout : Layout) (phase : ℕ) → AreBands layout.bands
    → first_cell_of layout ((phase + 1) * layout.bands.count) ≡ first_cell_of layout (phase * layout.bands.count + (layout.bands.count - 1)) + cells_in layout phase (rows_in layout.bands (layout.bands.count - 1))
after_phase layout phase is =
    let n : ℕ = layout.bands.count in
    let p : (phase + 1) * n ≡ phase * n + n = grind arith in
    let e = ap (first_cell_of layout) (let t : (phase + 1) * n ≡ (phase * n + (n - 1)) + 1 = omega (arith, p, is.some_bands) in t) in
    let s = sum_next (cell_total layout) (phase * n + (n - 1)) in
    omega (arith, e, s, total-at layout phase (n - 1) (omega (arith, is.some_bands)))

-- of rows that are cut into bands: each band's cells have at most lanes - 1 lanes too many
spare : (v l : ℕ) → 1 ≤ l → l * ceiling v l ≤ v + (l - 1)
spare v l some = let t = div-mul-le_self (v + l - 1) l in let e : (v + l - 1) / l * l ≡ l * ((v + l - 1) / l) = grind arith in omega (arith, t, e, some)

fits : (l per b h here rows : ℕ) → 1 ≤ l → b * h + here ≤ rows → l * (b * ceiling (h * per) l + ceiling (here * per) l) ≤ rows * per + (b + 1) * (l - 1)
fits l per b h here rows some r =
    let full : ℕ = ceiling (h * per) l in let last : ℕ = ceiling (here * per) l in
    let t : b * (l * full) ≤ b * (h * per + (l - 1)) = mul-le-mul_left b (spare (h * per) l some) in
    let u : (b * h + here) * per ≤ rows * per = mul-le-mul_right per r in
    let e : l * (b * full + last) ≡ b * (l * full) + l * last = grind arith in
    let f : b * (h * per + (l - 1)) + (here * per + (l - 1)) ≡ (b * h + here) * per + (b + 1) * (l - 1) = grind arith in
    omega (arith, t, u, e, f, spare (here * per) l some)

pub phase_fits : (layout : Layout) (phase b here : ℕ) → IsLayout layout → phase < 4 → b < layout.bands.count → b * layout.bands.height + here ≤ layout.bands.rows
    → b * cells_in layout phase layout.bands.height + cells_in layout phase here ≤ most_cells phase
phase_fits layout zero b here is few l r =
    let t = fits 7 layout.width b layout.bands.height here layout.bands.rows (omega arith) r in let u = mul-le layout.bands.rows layout.width 16384 16384 is.bands.few_rows is.narrow in
    let n = is.bands.few_bands in omega (arith, t, u, l, n)
phase_fits layout (suc zero) b here is few l r =
    let t = fits 31 layout.width b layout.bands.height here layout.bands.rows (omega arith) r in let u = mul-le layout.bands.rows layout.width 16384 16384 is.bands.few_rows is.narrow in
    let n = is.bands.few_bands in omega (arith, t, u, l, n)
phase_fits layout (suc (suc zero)) b here is few l r =
    let w = is.narrow in
    let t = fits 6 (2 * layout.width - 1) b layout.bands.height here layout.bands.rows (omega arith) r in let u = mul-le layout.bands.rows (2 * layout.width - 1) 16384 32767 is.bands.few_rows (omega (arith, w)) in
    let n = is.bands.few_bands in omega (arith, t, u, l, n)
phase_fits layout (suc (suc (suc zero))) b here is few l r =
    let t = fits 3 (layout.plates * layout.width) b layout.bands.height here layout.bands.rows (omega arith) r in
    let u = mul-le layout.bands.rows (layout.plates * layout.width) 16384 262144 is.bands.few_rows (per_row_few layout.plates layout.width is.few_plates is.narrow) in
    let n = is.bands.few_bands in omega (arith, t, u, l, n)
phase_fits layout (suc (suc (suc (suc phase)))) b here is few l r = absurd (omega (arith, few))

pub before_fits : (layout : Layout) (phase b : ℕ) → IsLayout layout → phase < 4 → b < layout.bands.count → b * cells_in layout phase layout.bands.height ≤ most_cells phase
before_fits layout phase b is few l =
    let begins = band_begins layout.bands b is.bands l in
    let t = phase_fits layout phase b 0 is few l (omega (arith, begins)) in omega (arith, t)

-- the cells of a whole phase
abbrev pub all_of_phase : Layout → ℕ → ℕ
all_of_phase layout phase = (layout.bands.count - 1) * cells_in layout phase layout.bands.height + cells_in layout phase (rows_in layout.bands (layout.bands.count - 1))

pub all_fit : (layout : Layout) (phase : ℕ) → IsLayout layout → phase < 4 → all_of_phase layout phase ≤ most_cells phase
all_fit layout phase is few =
    let n : ℕ = layout.bands.count in let some = is.bands.some_bands in
    let begins = band_begins layout.bands (n - 1) is.bands (omega (arith, some)) in
    phase_fits layout phase (n - 1) (rows_in layout.bands (n - 1)) is few (omega (arith, some)) (omega (arith, begins))

pub next_phase : (layout : Layout) (phase : ℕ) → AreBands layout.bands → first_cell_of layout ((phase + 1) * layout.bands.count) ≡ first_cell_of layout (phase * layout.bands.count) + all_of_phase layout phase
next_phase layout phase is =
    let n : ℕ = layout.bands.count in let some = is.some_bands in
    omega (arith, after_phase layout phase is, before_band layout phase (n - 1) is (omega (arith, some)))

pub most_next : (phase : ℕ) → phase < 4 → most_before phase + most_cells phase ≤ most_before (phase + 1)
most_next zero l = omega arith
most_next (suc zero) l = omega arith
most_next (suc (suc zero)) l = omega arith
most_next (suc (suc (suc zero))) l = omega arith
most_next (suc (suc (suc (suc phase)))) l = absurd (omega (arith, l))

pub phases_fit : (layout : Layout) (phase : ℕ) → IsLayout layout → phase ≤ 4 → first_cell_of layout (phase * layout.bands.count) ≤ most_before phase
phases_fit layout zero is few = let e = ap (first_cell_of layout) (let t : 0 * layout.bands.count ≡ 0 = omega arith in t) in omega (arith, e)
phases_fit layout (suc phase) is few =
    let n : ℕ = layout.bands.count in let e = ap (first_cell_of layout) (let t : suc phase * n ≡ (phase + 1) * n = grind arith in t) in
    let m = ap most_before (let t : suc phase ≡ phase + 1 = omega arith in t) in
    omega (arith, e, m, next_phase layout phase is.bands, all_fit layout phase is (omega (arith, few)), phases_fit layout phase is (omega (arith, few)), most_next phase (omega (arith, few)))

pub cells_fit : (layout : Layout) → IsLayout layout → cells_of layout < 2 ^ 31
cells_fit layout is = let t = phases_fit layout 4 is (omega arith) in omega (arith, t)

pub owner-is : (layout : Layout) (i j : ℕ) → i < piece_count layout → HasCell layout i j → piece_of_cell layout j ≡ i
unfolding piece_of_cell
owner-is layout i j l h = run_of-is (cell_total layout) i j (piece_count layout) l h.from h.below

pub owner : (layout : Layout) (j : ℕ) → j < cells_of layout → (piece_of_cell layout j < piece_count layout) × HasCell layout (piece_of_cell layout j) j
owner layout j l =
    let t = run_of (cell_total layout) j (piece_count layout) l in
    subst (λ (i : ℕ). (i < piece_count layout) × HasCell layout i j) (sym (owner-is layout t.0 j t.1 (record { from = t.2; below = t.3 }))) (t.1, record { from = t.2; below = t.3 })

-- each piece has a cell
some_row : (layout : Layout) (phase : ℕ) → IsLayout layout → 1 ≤ per_row layout phase
some_row layout phase is =
    let w = is.some_width in let p = is.some_plates in let t : 1 * 1 ≤ layout.plates * layout.width = mul-le 1 1 layout.plates layout.width p w in
    elim (cases_eq phase 2) [
      | inl two ↦ rw two (omega (arith, w))
      | inr n2 ↦ elim (cases_eq phase 3) [ inl three ↦ rw three (omega (arith, t)) | inr n3 ↦ rw (ne_eqb phase 2 n2, ne_eqb phase 3 n3) (omega (arith, w)) ]
    ]

pub some_cells : (layout : Layout) (i : ℕ) → IsLayout layout → 1 ≤ cell_total layout i
unfolding cell_total
some_cells layout i is =
    let begins = band_begins layout.bands (band_of layout.bands i) is.bands (band-less layout.bands i is.bands) in let h = is.bands.some_height in
    let rows : 1 ≤ rows_in layout.bands (band_of layout.bands i) = omega (arith, begins, h) in
    let t : 1 * 1 ≤ value_total layout i = mul-le 1 1 (rows_in layout.bands (band_of layout.bands i)) (per_row layout (phase_of layout.bands i)) rows (some_row layout (phase_of layout.bands i) is) in
    let l = some_lanes (phase_of layout.bands i) in
    le-div 1 (value_total layout i + lanes_of (phase_of layout.bands i) - 1) (lanes_of (phase_of layout.bands i)) l (omega (arith, t, l))
