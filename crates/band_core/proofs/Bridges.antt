-- What code needs to know of a cell: which values make it, what is unpacked from it, and that it is a word.
use Rattle.std.proofs.Common.{◌≡◌, ℕ, zero, suc, ◌+◌, ◌-◌, ◌*◌, ◌/◌, ◌%◌, ◌^◌, ◌<◌, ◌≤◌, List, length, slice_index, min, refl, sym, ap, ◌∙◌, subst, arith, inl, inr}
use Rattle.std.proofs.lemmas.List.{ext_get_or}
use Rattle.std.proofs.lemmas.Nat.{mod-mul-add, div_below}
use Rattle.std.proofs.Math.Nat.{mod-lt}
use Rattle.page_model.specs.declared.parts.PageParts.{PageParts}
use Rattle.page_model.specs.Conditions.{IsPage}
use Rattle.page_model.specs.Page.{width, height, plates}
use Rattle.page_model.specs.Reach.{page_reach}
use Rattle.lists.specs.Words.{list_below}
use Rattle.page_model.proofs.PageLemmas.{plane_of}
use Rattle.page_model.specs.Bands.{phase_of, band_of, piece_of, rows_in}
use Rattle.page_model.proofs.BandLemmas.{phase-less, row_in_band, phase_of_piece, band_of_piece}
use Rattle.band_core.specs.Layouts.{Layout}
use Rattle.band_core.specs.Packing.{packed, lane, IsBits}
use Rattle.band_core.specs.Places.{HasCell, piece_count, per_row, bits_of, lanes_of, value_total, cell_total, first_cell_of, cells_of, piece_of_cell}
use Rattle.band_core.proofs.Lanes.{under}
use Rattle.band_core.proofs.Places.{owner, owner-is, some_lanes}
use Rattle.band_core.specs.Values.{IsFor, row_value, row_of, place_of, value, cut, cell}
use Rattle.band_core.specs.Laws.{RowValues, RowsOfPieces}
use Rattle.band_core.proofs.Cells.{cell_at_piece, cell_inside, lane_of_cut}
use Rattle.band_core.proofs.Fits.{value_fits}
use Rattle.band_core.proofs.Halo.{Lies, lies, number_below, row_there}
use Rattle.lists.proofs.ListBelow.{length-list_below, list_below-at, all_below}
use Rattle.page_model.proofs.TintLemmas.{new_at_most}

tint_fits : (page : PageParts) (phase y o : ℕ) → IsPage page → y < height page → o < plates page * width page → row_value page (suc (suc (suc phase))) y o < 2 ^ 16
unfolding row_value
tint_fits page phase y o valid l m =
    let plane = plane_of page 0 valid valid.parts.some_plates in
    let some : 1 ≤ width page = plane.some_width in let deep = plane.maxval_fits in
    let inside = div_below o (width page) (plates page) some m in
    let most = new_at_most page (record { x = o % width page; y = y }) (o / width page) valid inside (record { x = mod-lt o some; y = l }) in omega (arith, most, deep)

-- each value fits its bits
pub fits : (page : PageParts) (layout : Layout) (i k : ℕ) → IsFor page layout → i < piece_count layout → k < value_total layout i → value page layout i k < 2 ^ bits_of (phase_of layout.bands i)
fits page layout i k is l m = go (phase_of layout.bands i) refl (phase-less layout.bands i l) where
  there : Lies page layout i k
  there = lies page layout i k is m

  few : page_reach page ≤ 256
  few = let reach = is.reach in let near = is.made.bands.near in omega (arith, reach, near)

  go : (phase : ℕ) → phase ≡ phase_of layout.bands i → phase < 4 → row_value page phase (row_of layout i k) (place_of layout i k) < 2 ^ bits_of phase
  go zero e f = value_fits page 0 (row_of layout i k) (place_of layout i k) is.valid few (omega arith)
  go (suc zero) e f = value_fits page 1 (row_of layout i k) (place_of layout i k) is.valid few (omega arith)
  go (suc (suc zero)) e f = value_fits page 2 (row_of layout i k) (place_of layout i k) is.valid few (omega arith)
  go (suc (suc (suc zero))) e f =
      tint_fits page 0 (row_of layout i k) (place_of layout i k) is.valid there.inside
      (let wide = is.wide in let deep = is.deep in subst (λ (w : ℕ). place_of layout i k < plates page * w) wide (subst (λ (c : ℕ). place_of layout i k < c * layout.width) deep (subst (λ (p : ℕ). place_of layout i k < per_row layout p) (sym e) there.along)))
  go (suc (suc (suc (suc phase)))) e f = absurd (omega (arith, f))

-- a list of the values of cell o of a piece, packed, is that cell
pub cell_packs : (page : PageParts) (layout : Layout) (i o : ℕ) (vs : List ℕ) → i < piece_count layout → o < cell_total layout i
    → length vs ≡ min (lanes_of (phase_of layout.bands i)) (value_total layout i - o * lanes_of (phase_of layout.bands i))
    → ((l : ℕ) → l < length vs → slice_index vs l ≡ value page layout i (o * lanes_of (phase_of layout.bands i) + l))
    → 1 + packed (bits_of (phase_of layout.bands i)) vs ≡ cell page layout (first_cell_of layout i + o)
cell_packs page layout i o vs l m long each =
    let phase : ℕ = phase_of layout.bands i in let f : ℕ → ℕ = λ h. value page layout i (o * lanes_of phase + h) in let n : ℕ = min (lanes_of phase) (value_total layout i - o * lanes_of phase) in
    let has : HasCell layout i (first_cell_of layout i + o) = record { from = omega arith; below = omega (arith, m) } in
    let here : first_cell_of layout i + o - first_cell_of layout i ≡ o = omega arith in
    let same : vs ≡ list_below f n = ext_get_or 0 vs (list_below f n) (long ∙ sym (length-list_below f n)) (λ k q. each k q ∙ sym (list_below-at f n k 0 (omega (arith, q, long)))) in
    ap (λ (xs : List ℕ). 1 + packed (bits_of phase) xs) (same ∙ ap (λ (z : ℕ). cut (value page layout i) (lanes_of phase) (value_total layout i) z) (sym here)) ∙ sym (cell_at_piece layout (value page layout) i (first_cell_of layout i + o) (owner-is layout i (first_cell_of layout i + o) l has))

-- from a cell each of its values is unpacked
pub cell_unpacks : (page : PageParts) (layout : Layout) (i k : ℕ) → IsFor page layout → i < piece_count layout → k < value_total layout i
    → lane (bits_of (phase_of layout.bands i)) (cell page layout (first_cell_of layout i + k / lanes_of (phase_of layout.bands i)) - 1) (k % lanes_of (phase_of layout.bands i)) ≡ value page layout i k
cell_unpacks page layout i k is l m =
    let phase : ℕ = phase_of layout.bands i in let start : ℕ = first_cell_of layout i in let o : ℕ = k / lanes_of phase in
    let whole = cell_at_piece layout (value page layout) i (start + o) (owner-is layout i (start + o) l (cell_inside layout i k m)) in
    let here : start + o - start ≡ o = omega arith in
    let packed_is : cell page layout (start + o) - 1 ≡ packed (bits_of phase) (cut (value page layout i) (lanes_of phase) (value_total layout i) o) = omega (arith, whole ∙ ap (λ (z : ℕ). 1 + packed (bits_of phase) (cut (value page layout i) (lanes_of phase) (value_total layout i) z)) here) in
    ap (λ (z : ℕ). lane (bits_of phase) z (k % lanes_of phase)) packed_is ∙ lane_of_cut (value page layout i) (bits_of phase) (lanes_of phase) (value_total layout i) k (some_lanes phase) m (λ h q. fits page layout i h is l q)

is_bits : (phase : ℕ) → phase < 4 → IsBits (bits_of phase)
is_bits zero l = inl refl
is_bits (suc zero) l = inr (inl refl)
is_bits (suc (suc zero)) l = inr (inr (inl refl))
is_bits (suc (suc (suc zero))) l = inr (inr (inr refl))
is_bits (suc (suc (suc (suc phase)))) l = absurd (omega (arith, l))

-- a cell is no 0, and fits its word
pub cell_word : (page : PageParts) (layout : Layout) (j : ℕ) → IsFor page layout → j < cells_of layout → (1 ≤ cell page layout j) × (cell page layout j < 2 ^ 63)
cell_word page layout j is l =
    let own = owner layout j l in let i : ℕ = piece_of_cell layout j in let phase : ℕ = phase_of layout.bands i in let o : ℕ = j - first_cell_of layout i in
    let n : ℕ = min (lanes_of phase) (value_total layout i - o * lanes_of phase) in let f : ℕ → ℕ = λ h. value page layout i (o * lanes_of phase + h) in
    let whole = cell_at_piece layout (value page layout) i j refl in let long = length-list_below f n in
    let small = under (bits_of phase) (list_below f n) (is_bits phase (phase-less layout.bands i own.0)) (omega (arith, long)) (all_below (λ v. v < 2 ^ bits_of phase) f n (λ h q. fits page layout i (o * lanes_of phase + h) is own.0 (omega (arith, q)))) in
    (omega (arith, whole), omega (arith, whole, small))

pub row_values : (page : PageParts) (y o : ℕ) → RowValues page y o
unfolding row_value
row_values page y o = record { zone = refl; marks = refl; answer = refl; tint = refl }

pub rows_of_pieces : (page : PageParts) (layout : Layout) → IsFor page layout → RowsOfPieces page layout
rows_of_pieces page layout is phase y o inside along =
    let h : ℕ = layout.bands.height in let per : ℕ = per_row layout phase in let b : ℕ = y / h in
    let n : ℕ = piece_of layout.bands phase b in let k : ℕ = y % h * per + o in
    let bands = is.made.bands in let tall = is.tall in
    let row : y < layout.bands.rows = omega (arith, inside, tall) in
    let band = row_in_band layout.bands y bands row in
    let e = phase_of_piece layout.bands phase b band in let f = band_of_piece layout.bands phase b band in (
      subst (λ (q : ℕ). k < rows_in layout.bands (band_of layout.bands n) * per_row layout q) (sym e) (subst (λ (c : ℕ). k < rows_in layout.bands c * per) (sym f) (number_below h y layout.bands.rows per o bands.some_height row along)),
      (λ z. row_value page (e z) (f z * h + k / per_row layout (e z)) (k % per_row layout (e z))) ∙ (λ z. row_value page phase (row_there h y per o along z) (mod-mul-add (y % h) per o along z)),
    )
