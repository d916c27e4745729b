-- Where the cells of a piece stand.
use Rattle.std.specs.Prelude.{ℕ, ◌+◌, ◌-◌, ◌*◌, ◌≤◌, ◌<◌, ◌==◌, nat_le, if◌then◌else◌}
use Rattle.page_model.specs.Bands.{ceiling, rows_in, pieces_of, phase_of, band_of}
use Rattle.lists.specs.Words.{sum_below, count_below}
use Rattle.band_core.specs.Packing.{lanes}
use Rattle.band_core.specs.Layouts.{Layout}

abbrev pub piece_count : Layout → ℕ
piece_count layout = pieces_of layout.bands

-- how many values a row has in each phase: a zone for each sample, two marks, an answer for each
-- doubled column, a tint for each plate and sample
abbrev pub per_row : Layout → ℕ → ℕ
per_row layout phase = if phase == 2 then 2 * layout.width - 1 else if phase == 3
    then layout.plates * layout.width else layout.width

-- the bits of a value in each phase
abbrev pub bits_of : ℕ → ℕ
bits_of phase = if phase == 0 then 8 else if phase == 1 then 2 else if phase == 2 then 10 else 16

-- how many values a cell takes
abbrev pub lanes_of : ℕ → ℕ
lanes_of phase = lanes (bits_of phase)

-- how many cells the values of `rows` rows of a phase take
abbrev pub cells_in : Layout → ℕ → ℕ → ℕ
cells_in layout phase rows = ceiling (rows * per_row layout phase) (lanes_of phase)

-- how many values a piece has, and how many cells
abbrev pub value_total : Layout → ℕ → ℕ
value_total layout i =
    rows_in layout.bands (band_of layout.bands i) * per_row layout (phase_of layout.bands i)

unfoldable pub cell_total : Layout → ℕ → ℕ
cell_total layout i = ceiling (value_total layout i) (lanes_of (phase_of layout.bands i))

-- the cells of the pieces before a piece stand before its own
abbrev pub first_cell_of : Layout → ℕ → ℕ
first_cell_of layout i = sum_below (cell_total layout) i

abbrev pub cells_of : Layout → ℕ
cells_of layout = sum_below (cell_total layout) (piece_count layout)

-- cell j is one of piece i
pub record HasCell (layout : Layout) (i j : ℕ) : Type 0 where
  pub from : first_cell_of layout i ≤ j
  pub below : j < first_cell_of layout i + cell_total layout i

-- the piece of a cell: as many pieces stand before it as end before the cell
unfoldable pub piece_of_cell : Layout → ℕ → ℕ
piece_of_cell layout j =
    count_below (λ i. nat_le (first_cell_of layout i + cell_total layout i) j) (piece_count layout)
