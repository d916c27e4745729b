-- The values of pieces over the undivided page, and their cells.
use Rattle.std.specs.Prelude.{◌≡◌, ℕ, zero, suc, ◌+◌, ◌-◌, ◌*◌, ◌/◌, ◌%◌, List, min}
use Rattle.page_model.specs.declared.parts.PageParts.{PageParts}
use Rattle.page_model.specs.Columns.{column_answer}
use Rattle.page_model.specs.Conditions.{IsPage}
use Rattle.page_model.specs.Deciding.{mark}
use Rattle.page_model.specs.Page.{width, height, plates}
use Rattle.page_model.specs.Reach.{page_reach}
use Rattle.page_model.specs.Tints.{new}
use Rattle.lists.specs.Words.{list_below}
use Rattle.page_model.specs.Zones.{zone_of}
use Rattle.page_model.specs.Bands.{first_row, phase_of, band_of}
use Rattle.band_core.specs.Layouts.{Layout}
use Rattle.band_core.specs.Packing.{packed}
use Rattle.band_core.specs.Layouts.{IsLayout}
use Rattle.band_core.specs.Places.{per_row, bits_of, lanes_of, value_total, first_cell_of}
use Rattle.band_core.specs.Places.{piece_of_cell}

-- the layout is that of the page, in bands for its height and reach
pub record IsFor (page : PageParts) (layout : Layout) : Type 0 where
  pub valid : IsPage page
  pub made : IsLayout layout
  pub wide : layout.width ≡ width page
  pub deep : layout.plates ≡ plates page
  pub tall : layout.bands.rows ≡ height page
  pub reach : layout.bands.reach2 ≡ page_reach page

-- The value of a phase at place o of row y of the page: the zone of sample o, its two marks, the
-- answer of doubled column o, and the new tint of plate o / width at column o % width.
unfoldable pub row_value : PageParts → ℕ → ℕ → ℕ → ℕ
row_value page zero y o = zone_of page (record { x = o; y = y })
row_value page (suc zero) y o = mark page y o
row_value page (suc (suc zero)) y o = column_answer page (page_reach page) o y
row_value page (suc (suc (suc phase))) y o =
    new page (record { x = o % width page; y = y }) (o / width page)

-- the row and the place in it of value k of a piece; values stand row by row
abbrev pub row_of : Layout → ℕ → ℕ → ℕ
row_of layout i k =
    first_row layout.bands (band_of layout.bands i) + k / per_row layout (phase_of layout.bands i)

abbrev pub place_of : Layout → ℕ → ℕ → ℕ
place_of layout i k = k % per_row layout (phase_of layout.bands i)

-- value k of piece i
abbrev pub value : PageParts → Layout → ℕ → ℕ → ℕ
value page layout i k =
    row_value page (phase_of layout.bands i) (row_of layout i k) (place_of layout i k)

-- the values of cell o of a piece: as many as it has lanes, or the rest of the piece's
abbrev pub cut : (ℕ → ℕ) → ℕ → ℕ → ℕ → List ℕ
cut values lanes total o = list_below (λ l. values (o * lanes + l)) (min lanes (total - o * lanes))

-- cell j, where pieces have such values: 1 more than they are packed
unfoldable pub cell_of : Layout → (ℕ → ℕ → ℕ) → ℕ → ℕ
cell_of layout values j =
    let i = piece_of_cell layout j in
    let phase = phase_of layout.bands i in
    1 + packed (bits_of phase)
    (cut (values i) (lanes_of phase) (value_total layout i) (j - first_cell_of layout i))

-- cell j of the page
abbrev pub cell : PageParts → Layout → ℕ → ℕ
cell page layout j = cell_of layout (value page layout) j
