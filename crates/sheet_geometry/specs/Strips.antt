-- A strip of a sheet: all columns, and the rows of a window. It is a sheet of its own.
use Rattle.std.specs.Prelude.{ℕ}
use Rattle.page_model.specs.declared.parts.PageParts.{PageParts}
use Rattle.page_model.specs.Page.{width}
use Rattle.sheet_geometry.specs.declared.spans.Span.{Span}
use Rattle.sheet_geometry.specs.Sheets.{IsNearSheet, IsSheet}
use Rattle.sheet_geometry.specs.Tiles.{IsTile, Tile}
use Rattle.sheet_geometry.specs.Windows.{window}

-- all columns of these rows; its core is all columns of the rows' core
abbrev pub strip_tile : PageParts → Span → Tile
strip_tile sheet row = record {
  cut = record { left = 0; top = row.from; width = width sheet; height = row.wide };
  core = record { left = 0; top = row.skip; width = width sheet; height = row.core };
}

-- the strip, as parts
abbrev pub strip_parts : PageParts → Span → PageParts
strip_parts sheet row = window sheet (strip_tile sheet row).cut

-- the strip is a tile of the sheet, and a sheet
pub record StripLaw (halo : ℕ) (sheet : PageParts) (at : ℕ) (row : Span) : Type 0 where
  pub tile : IsTile halo sheet (strip_tile sheet row) 0 at row.core
  pub ranges : IsSheet (strip_parts sheet row)
  pub near : IsNearSheet (strip_parts sheet row)
