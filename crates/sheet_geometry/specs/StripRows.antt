-- The rows of a strip, as they are held while the sheet is read.
use Rattle.std.specs.Prelude.{◌≡◌, ℕ, ◌*◌, ◌<◌, List, drop, length, take}
use Rattle.page_model.specs.declared.parts.PageParts.{PageParts}
use Rattle.page_model.specs.declared.parts.Plane.{Plane}
use Rattle.page_model.specs.Page.{maxval, plates, width}
use Rattle.page_model.specs.Planes.{plane_at, tints_of}
use Rattle.sheet_geometry.specs.declared.spans.Span.{Span}

-- the rows `from` to `from + rows` of some tints
abbrev pub rows_of : ℕ → List ℕ → ℕ → ℕ → List ℕ
rows_of wide tints from rows = take (rows * wide) (drop (from * wide) tints)

-- the rows of a plane of a sheet that a strip has
abbrev pub strip_plane : PageParts → Span → ℕ → Plane
strip_plane sheet row c = record {
  width = width sheet;
  height = row.wide;
  maxval = maxval sheet;
  tints = rows_of (width sheet) (tints_of sheet.planes c) row.from row.wide;
}

-- planes that are those rows of the sheet's
pub record HoldRows (sheet : PageParts) (row : Span) (planes : List Plane) : Type 0 where
  pub count : length planes ≡ plates sheet
  pub each : (c : ℕ) → c < plates sheet → plane_at planes c ≡ strip_plane sheet row c
