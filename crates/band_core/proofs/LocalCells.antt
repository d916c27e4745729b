-- The same for boards and cells.
use Rattle.std.proofs.Common.{◌≡◌, ℕ, ◌+◌, ◌-◌, ◌*◌, ◌/◌, ◌%◌, ◌<◌, true, refl, sym, ap, arith, subst}
use Rattle.page_model.specs.declared.parts.PageParts.{PageParts}
use Rattle.page_model.specs.Bands.{phase_of, band_of, piece_of, rows_in}
use Rattle.band_core.specs.Needs.{is_need}
use Rattle.page_model.proofs.BandLemmas.{row_in_band, phase_of_piece, band_of_piece, phase-less}
use Rattle.band_core.proofs.NeedLemmas.{need_less}
use Rattle.band_core.specs.Layouts.{Layout}
use Rattle.band_core.specs.Packing.{lane}
use Rattle.band_core.specs.Places.{piece_count, per_row, bits_of, lanes_of, value_total, first_cell_of}
use Rattle.band_core.specs.Shapes.{shape_of}
use Rattle.band_core.specs.TableShapes.{Has}
use Rattle.band_core.specs.Boards.{Board, cell_at}
use Rattle.band_core.specs.Values.{IsFor, row_of, place_of}
use Rattle.band_core.specs.Recipe.{stored, unpacked, value_by, AgreeOnNeeds}
use Rattle.band_core.specs.Laws.{ReadsNeedsAlone}
use Rattle.band_core.proofs.Cells.{cell_same, cell_inside}
use Rattle.band_core.proofs.Halo.{lies, number_below}
use Rattle.band_core.proofs.Local.{row_alike}
use Rattle.band_core.proofs.Shapes.{has_cell}

unpacked_alike : (layout : Layout) (board other : Board) (n k : ℕ) → cell_at board (first_cell_of layout n + k / lanes_of (phase_of layout.bands n)) ≡ cell_at other (first_cell_of layout n + k / lanes_of (phase_of layout.bands n)) → unpacked layout board n k ≡ unpacked layout other n k
unfolding unpacked
unpacked_alike layout board other n k e = ap (λ (c : ℕ). lane (bits_of (phase_of layout.bands n)) (c - 1) (k % lanes_of (phase_of layout.bands n))) e

stored_alike : (page : PageParts) (layout : Layout) (board other : Board) (i : ℕ) → IsFor page layout → i < piece_count layout → ((n h : ℕ) → is_need layout.bands i n ≡ true → Has (shape_of layout) n h → cell_at board h ≡ cell_at other h) → AgreeOnNeeds page layout (stored layout board) (stored layout other) i
unfolding stored
stored_alike page layout board other i is l same phase y o need inside along =
    let h : ℕ = layout.bands.height in let per : ℕ = per_row layout phase in let b : ℕ = y / h in
    let n : ℕ = piece_of layout.bands phase b in let k : ℕ = y % h * per + o in
    let bands = is.made.bands in let tall = is.tall in
    let row : y < layout.bands.rows = omega (arith, inside, tall) in
    let band = row_in_band layout.bands y bands row in
    let e = phase_of_piece layout.bands phase b band in let f = band_of_piece layout.bands phase b band in
    let less = need_less layout.bands i n bands need in
    let number : k < value_total layout n = subst (λ (q : ℕ). k < rows_in layout.bands (band_of layout.bands n) * per_row layout q) (sym e) (subst (λ (c : ℕ). k < rows_in layout.bands c * per) (sym f) (number_below h y layout.bands.rows per o bands.some_height row along)) in
    let c = cell_inside layout n k number in
    unpacked_alike layout board other n k (same n (first_cell_of layout n + k / lanes_of (phase_of layout.bands n)) need (record { piece = omega (arith, less, l); from = c.from; below = c.below }))

pub reads_needs_alone : (page : PageParts) (layout : Layout) → IsFor page layout → ReadsNeedsAlone page layout
reads_needs_alone page layout is = λ board other i j h same.
    cell_same layout (value_by page layout (stored layout board)) (value_by page layout (stored layout other)) i j h.piece (has_cell layout i j h)
    (λ k l. let s = lies page layout i k is l in
    row_alike page layout is (stored layout board) (stored layout other) i (row_of layout i k) (stored_alike page layout board other i is h.piece same) s.inside s.here (phase_of layout.bands i) refl (phase-less layout.bands i h.piece) (place_of layout i k) s.along)
