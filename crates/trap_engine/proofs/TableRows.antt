-- A row that is read out of the table has the row's zones and marks.
use Rattle.std.proofs.Common.{◌≡◌, ℕ, ◌+◌, ◌*◌, ◌<◌, ◌∙◌, ap, arith, List, length, slice_index}
use Rattle.page_model.specs.declared.parts.PageParts.{PageParts}
use Rattle.page_model.specs.Deciding.{mark}
use Rattle.page_model.specs.Page.{width}
use Rattle.page_model.specs.Zones.{AreZones}
use Rattle.row_values.specs.Rows.{HoldsMarks, HoldsRows, HoldsZones, zone_value}
use Rattle.band_claims.specs.Receipt.{Receipt}
use Rattle.band_claims.proofs.Steps.{fit_shape}
use Rattle.band_pieces.specs.Fills.{HasCells}
use Rattle.band_pieces.specs.Finished.{IsFinished}
use Rattle.page_tally.specs.Standing.{AreMarks}

-- of one row the places are those of the list
one_row : (wide y o : ℕ) (value : ℕ → ℕ → ℕ) (items : List ℕ) → HoldsRows wide value (record { first = y; count = 1 }) items → o < wide → slice_index items o ≡ value y o
one_row wide y o value items h l =
    let place : o ≡ 0 * wide + o = omega arith in
    let here : y + 0 ≡ y = omega arith in
    ap (slice_index items) place ∙ h.each 0 o (omega arith) l ∙ ap (λ (n : ℕ). value n o) here

one_long : (wide y : ℕ) (value : ℕ → ℕ → ℕ) (items : List ℕ) → HoldsRows wide value (record { first = y; count = 1 }) items → length items ≡ wide
one_long wide y value items h = omega (arith, h.long)

pub row_zones : (page : PageParts) (y : ℕ) (zones : List ℕ) → HoldsZones page (record { first = y; count = 1 }) zones → AreZones page y zones
row_zones page y zones h = record {
  wide = one_long (width page) y (zone_value page) zones h;
  each = λ x l. one_row (width page) y x (zone_value page) zones h l;
}

pub row_marks : (page : PageParts) (y : ℕ) (marks : List ℕ) → HoldsMarks page (record { first = y; count = 1 }) marks → AreMarks page y marks
row_marks page y marks h = record {
  wide = one_long (width page) y (mark page) marks h;
  each = λ x l. one_row (width page) y x (mark page) marks h l;
}

-- all cells of a finished table are known
pub cells_stored : (page : PageParts) (receipt : Receipt) (i : ℕ) → IsFinished page receipt → HasCells receipt i
cells_stored page receipt i h = λ j has. h.cells j (omega (arith, has.below, (fit_shape receipt.table_key h.fit).inside i has.piece))
