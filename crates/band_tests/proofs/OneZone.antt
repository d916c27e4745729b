-- On such a page each sample lies in zone 0, and a band's zones are one cell of 1.
use Rattle.std.proofs.Common.{◌≡◌, ℕ, zero, suc, ◌+◌, ◌-◌, ◌*◌, ◌/◌, ◌%◌, ◌^◌, ◌<◌, [], ◌∷◌, length, slice_index, refl, sym, ap, ◌∙◌, arith}
use Rattle.std.specs.Prelude.{min}
use Rattle.page_model.specs.declared.parts.At.{At}
use Rattle.page_model.specs.declared.parts.PageParts.{PageParts}
use Rattle.page_model.specs.Bands.{ceiling, rows_in, phase_of, band_of}
use Rattle.page_model.specs.Conditions.{IsPage}
use Rattle.page_model.specs.Zones.{zone_of}
use Rattle.page_model.proofs.BandLemmas.{band_begins, band_of_piece, phase_of_piece}
use Rattle.page_model.proofs.ZoneLemmas.{zone_of-is}
use Rattle.band_core.specs.Layouts.{Layout}
use Rattle.band_core.specs.Places.{per_row, lanes_of, bits_of, value_total, cell_total, first_cell_of, cells_of, piece_count}
use Rattle.band_core.proofs.Sums.{sum_at_most}
use Rattle.band_core.specs.TableShapes.{Has}
use Rattle.band_core.specs.Values.{value, row_value}
use Rattle.band_core.proofs.Bridges.{cell_packs, row_values}
use Rattle.band_claims.specs.declared.table_key.TableKey.{TableKey}
use Rattle.band_claims.specs.TableKeys.{cell, shape_of}
use Rattle.band_tests.specs.OneColumn.{OneColumn}

zone_0 : (page : PageParts) (p : At) → IsPage page → length page.zones ≡ 1 → zone_of page p ≡ 0
zone_0 page p valid one = let t = (zone_of-is page p valid).known in omega (arith, t, one)

module _ (table_key : TableKey) (is : OneColumn table_key) where
  abbrev layout : Layout
  layout = table_key.layout

  -- the zones of a band
  phase_0 : (i : ℕ) → i < 2 → phase_of layout.bands i ≡ 0
  phase_0 i l = ap (phase_of layout.bands) (let e : i ≡ 0 * layout.bands.count + i = omega arith in e) ∙ phase_of_piece layout.bands 0 i (let n = is.two_bands in omega (arith, l, n))

  band_i : (i : ℕ) → i < 2 → band_of layout.bands i ≡ i
  band_i i l = ap (band_of layout.bands) (let e : i ≡ 0 * layout.bands.count + i = omega arith in e) ∙ band_of_piece layout.bands 0 i (let n = is.two_bands in omega (arith, l, n))

  one_row : (i : ℕ) → i < 2 → rows_in layout.bands i ≡ 1
  one_row i l =
      let begins = band_begins layout.bands i is.fit.made.bands (let n = is.two_bands in omega (arith, l, n)) in
      let flat = is.flat in omega (arith, begins, flat)

  one_value : (i : ℕ) → i < 2 → value_total layout i ≡ 1
  one_value i l =
      ap (λ (b : ℕ). rows_in layout.bands b * per_row layout (phase_of layout.bands i)) (band_i i l)
      ∙ (ap (λ (q : ℕ). rows_in layout.bands i * per_row layout q) (phase_0 i l)
      ∙ (ap (λ (n : ℕ). n * layout.width) (one_row i l) ∙ (let w = is.narrow in omega (arith, w))))

  pub one_cell : (i : ℕ) → i < 2 → cell_total layout i ≡ 1
  unfolding cell_total
  one_cell i l =
      ap (λ (n : ℕ). ceiling n (lanes_of (phase_of layout.bands i))) (one_value i l) ∙ ap (λ (q : ℕ). ceiling 1 (lanes_of q)) (phase_0 i l)

  value_0 : (i k : ℕ) → i < 2 → value table_key.page.value layout i k ≡ 0
  value_0 i k l =
      let y : ℕ = band_of layout.bands i * layout.bands.height + k / per_row layout (phase_of layout.bands i) in let o : ℕ = k % per_row layout (phase_of layout.bands i) in
      ap (λ (q : ℕ). row_value table_key.page.value q y o) (phase_0 i l) ∙ ((row_values table_key.page.value y o).zone ∙ zone_0 table_key.page.value (record { x = o; y = y }) is.fit.valid is.one_zone)

  pub cell_is_1 : (i : ℕ) → i < 2 → cell table_key (first_cell_of layout i + 0) ≡ 1
  unfolding cell
  cell_is_1 i l =
      let phase = phase_0 i l in let bands = is.two_bands in
      let packs = cell_packs table_key.page.value layout i 0 (0 ∷ []) (omega (arith, l, bands)) (let t = one_cell i l in omega (arith, t))
      (let e : 1 ≡ min 7 (1 - 0 * 7) = refl in e ∙ (sym (ap (λ (q : ℕ). min (lanes_of q) (1 - 0 * lanes_of q)) phase) ∙ sym (ap (λ (n : ℕ). min (lanes_of (phase_of layout.bands i)) (n - 0 * lanes_of (phase_of layout.bands i))) (one_value i l))))
      (λ m q. let e : m ≡ 0 = omega (arith, q) in ap (slice_index (0 ∷ [])) e ∙ sym (value_0 i (0 * lanes_of (phase_of layout.bands i) + m) l)) in
      sym packs ∙ ap (λ (b : ℕ). 1 + (0 + 2 ^ b * 0)) (ap bits_of phase)

  pub first_is : (i : ℕ) → i < 2 → first_cell_of layout i ≡ i
  first_is zero l = refl
  first_is (suc zero) l = let t = one_cell 0 (omega arith) in omega (arith, t)
  first_is (suc (suc i)) l = absurd (omega (arith, l))

  pub cell_has : (i : ℕ) → i < 2 → Has (shape_of table_key) i i
  cell_has i l =
      let one = one_cell i l in let first = first_is i l in let n = is.two_bands in
      record { piece = omega (arith, l, n); from = omega (arith, first); below = omega (arith, first, one) }

  pub two_cells : 1 < cells_of layout
  two_cells =
      let n = is.two_bands in let most = sum_at_most (cell_total layout) 2 (piece_count layout) (omega (arith, n)) in
      let first = one_cell 0 (omega arith) in let second = one_cell 1 (omega arith) in omega (arith, most, first, second)
