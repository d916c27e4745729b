-- The laws in words.
use Rattle.std.specs.Prelude.{◌≡◌, ℕ, ◌+◌, ◌-◌, ◌*◌, ◌/◌, ◌%◌, ◌<◌, true, List, length, slice_index}
use Rattle.std.specs.Prelude.{min}
use Rattle.page_model.specs.declared.parts.PageParts.{PageParts}
use Rattle.page_model.specs.Columns.{column_answer}
use Rattle.page_model.specs.Deciding.{mark}
use Rattle.page_model.specs.Page.{width, height}
use Rattle.page_model.specs.Reach.{page_reach}
use Rattle.page_model.specs.Tints.{new}
use Rattle.page_model.specs.Zones.{zone_of}
use Rattle.page_model.specs.Bands.{phase_of, piece_of, band_of_row}
use Rattle.band_core.specs.Needs.{is_need}
use Rattle.band_core.specs.Layouts.{Layout}
use Rattle.band_core.specs.Places.{piece_count, per_row, value_total, cell_total, first_cell_of}
use Rattle.band_core.specs.Places.{bits_of, lanes_of}
use Rattle.band_core.specs.Packing.{packed, lane}
use Rattle.band_core.specs.Shapes.{shape_of}
use Rattle.band_core.specs.TableShapes.{Has}
use Rattle.band_core.specs.Boards.{Board, cell_at}
use Rattle.band_core.specs.Values.{IsFor, value, cell, row_value}
use Rattle.band_core.specs.Recipe.{Reading, value_by, HoldsNeeds, recipe}

-- of each piece of that phase: by what its needs hold each of its values is that of the
-- undivided page
abbrev pub PhaseLaw : ℕ → Type 0
PhaseLaw phase = (page : PageParts) (layout : Layout) → IsFor page layout
    → (read : Reading) (i k : ℕ) → i < piece_count layout → phase_of layout.bands i ≡ phase
    → k < value_total layout i → HoldsNeeds page layout read i
    → value_by page layout read i k ≡ value page layout i k

-- the recipe reads the page and the cells of the needs of a cell's piece, and nothing else: two
-- boards with the same cells there have one value
abbrev pub ReadsNeedsAlone : PageParts → Layout → Type 0
ReadsNeedsAlone page layout = (board other : Board) (i j : ℕ) → Has (shape_of layout) i j
    → ((n h : ℕ) → is_need layout.bands i n ≡ true → Has (shape_of layout) n h
    → cell_at board h ≡ cell_at other h) → recipe page layout board j ≡ recipe page layout other j

-- a list of the values of cell o of a piece, packed, is that cell
abbrev pub CellPacks : PageParts → Layout → Type 0
CellPacks page layout = (i o : ℕ) (vs : List ℕ) → i < piece_count layout → o < cell_total layout i
    → length vs ≡ min (lanes_of (phase_of layout.bands i))
    (value_total layout i - o * lanes_of (phase_of layout.bands i))
    → ((l : ℕ) → l < length vs
    → slice_index vs l ≡ value page layout i (o * lanes_of (phase_of layout.bands i) + l))
    → 1 + packed (bits_of (phase_of layout.bands i)) vs
    ≡ cell page layout (first_cell_of layout i + o)

-- value k of a piece stands in lane k % lanes of its cell k / lanes
abbrev pub CellUnpacks : PageParts → Layout → Type 0
CellUnpacks page layout = (i k : ℕ) → i < piece_count layout → k < value_total layout i
    → lane (bits_of (phase_of layout.bands i))
    (cell page layout (first_cell_of layout i + k / lanes_of (phase_of layout.bands i)) - 1)
    (k % lanes_of (phase_of layout.bands i)) ≡ value page layout i k

-- what stands at place o of row y in each phase
pub record RowValues (page : PageParts) (y o : ℕ) : Type 0 where
  pub zone : row_value page 0 y o ≡ zone_of page (record { x = o; y = y })
  pub marks : row_value page 1 y o ≡ mark page y o
  pub answer : row_value page 2 y o ≡ column_answer page (page_reach page) o y
  pub tint : row_value page 3 y o ≡ new page (record { x = o % width page; y = y }) (o / width page)

-- and of which piece that is which value
abbrev pub RowsOfPieces : PageParts → Layout → Type 0
RowsOfPieces page layout = (phase y o : ℕ) → y < height page → o < per_row layout phase
    → (y % layout.bands.height * per_row layout phase + o
    < value_total layout (piece_of layout.bands phase (band_of_row layout.bands y)))
    × (value page layout (piece_of layout.bands phase (band_of_row layout.bands y))
    (y % layout.bands.height * per_row layout phase + o) ≡ row_value page phase y o)
