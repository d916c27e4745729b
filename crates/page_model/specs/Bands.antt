-- Bands of rows: how many there are, where each begins, and how many rows it has.
use Rattle.std.specs.Prelude.{◌≡◌, ℕ, ◌+◌, ◌-◌, ◌*◌, ◌/◌, ◌%◌, ◌≤◌, min}
use Rattle.page_model.specs.declared.bands.Bands.{Bands}
use Rattle.page_model.specs.Limits.{most_band_height, most_reach, most_side}

-- a / b, cut up to a whole number
abbrev pub ceiling : ℕ → ℕ → ℕ
ceiling a b = (a + b - 1) / b

-- as many bands as hold all rows, in the ranges of a page; that there are 1 to most_side of them
-- follows
pub record AreBands (bands : Bands) : Type 0 where
  pub some_rows : 1 ≤ bands.rows
  pub few_rows : bands.rows ≤ most_side
  pub some_height : 1 ≤ bands.height
  pub low : bands.height ≤ most_band_height
  pub near : bands.reach2 ≤ most_reach
  pub count : bands.count ≡ ceiling bands.rows bands.height
  pub some_bands : 1 ≤ bands.count
  pub few_bands : bands.count ≤ most_side

-- the first row of a band
abbrev pub first_row : Bands → ℕ → ℕ
first_row bands band = band * bands.height

-- how many rows a band has: the last one has what is left
abbrev pub rows_in : Bands → ℕ → ℕ
rows_in bands band = min bands.height (bands.rows - first_row bands band)

-- the band in which a row lies
abbrev pub band_of_row : Bands → ℕ → ℕ
band_of_row bands y = y / bands.height

-- A piece of work is a phase of a band: 0 for its zones, 1 for its edges, 2 for its columns, 3
-- for its traps. Pieces
-- are numbered phase by phase, and in a phase from the top.

-- how many pieces there are
abbrev pub pieces_of : Bands → ℕ
pieces_of bands = 4 * bands.count

-- the piece of a phase and a band
abbrev pub piece_of : Bands → ℕ → ℕ → ℕ
piece_of bands phase band = phase * bands.count + band

-- the phase of a piece
abbrev pub phase_of : Bands → ℕ → ℕ
phase_of bands piece = piece / bands.count

-- the band of a piece
abbrev pub band_of : Bands → ℕ → ℕ
band_of bands piece = piece % bands.count
