-- The rows of a piece's band.
use Rattle.std.specs.Prelude.{ℕ}
use Rattle.row_values.specs.declared.rows.Rows.{Rows}
use Rattle.page_model.specs.declared.bands.Bands.{Bands}
use Rattle.page_model.specs.Bands.{band_of, first_row, rows_in}

-- the rows of the band of a piece
abbrev pub rows_of_piece : Bands → ℕ → Rows
rows_of_piece bands piece =
    record {
      first = first_row bands (band_of bands piece);
      count = rows_in bands (band_of bands piece);
    }
