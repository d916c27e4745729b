-- A strip of a sheet that is put: what is so of the sheet then.
use Rattle.std.specs.Prelude.{ℕ, ◌+◌, ◌*◌, ◌≤◌, List, Some, Ok, Err}
use Rattle.sheet_geometry.specs.Areas.{traps}
use Rattle.sheet_geometry.specs.StripCores.{inner_row, inner_ruler, new_from}
use Rattle.outside.specs.Rack.{RackState}
use Rattle.page_model.specs.declared.parts.PageParts.{PageParts}
use Rattle.page_model.specs.Page.{width}
use Rattle.pgm_plates.specs.declared.header.Header.{Header}
use Rattle.plate_rows.specs.Images.{BreaksRows}
use Rattle.common_errors.specs.declared.common.CommonError.TheVariants.{Write}
use Rattle.sheet_stream.specs.Growing.{new_rows}
use Rattle.sheet_stream.specs.Writing.{RowsAreWritten}
use Rattle.sheet_geometry.specs.declared.spans.Ruler.{Ruler}
use Rattle.sheet_geometry.specs.declared.spans.Span.{Span}
use Rattle.sheet_geometry.specs.Plans.{AreRulersFor}
use Rattle.sheet_geometry.specs.Sheets.{IsNearSheet, IsSheet}
use Rattle.sheet_geometry.specs.Spans.{IsSpan}
use Rattle.sheet_geometry.specs.Strips.{strip_parts}
use Rattle.sheet_stream.specs.declared.core_rows.StripCut.{StripCut}
use Rattle.sheet_stream.specs.Cores.{WritesCore}
use Rattle.sheet_engine.specs.Growth.{AddsArea}
use Rattle.sheet_engine.specs.declared.counts.SheetCounts.{SheetCounts}

-- how the strip of these rows of a sheet is cut
abbrev pub strip_cut : Ruler → Ruler → Span → StripCut
strip_cut across down row =
    record { across = across; down = inner_ruler down row; row = inner_row row }

-- After the rows above it the rows of a strip's core are written: with them that many more rows of
-- the sheet's new tints are.
abbrev pub StripIsWritten : Type 0
StripIsWritten = (outputs : List (List ℕ)) (header : Header) (count at : ℕ) (sheet : PageParts)
    (across down : Ruler) (row : Span) (start before after : List RackState) → IsSheet sheet
    → IsNearSheet sheet → AreRulersFor traps sheet across down → IsSpan down at row
    → RowsAreWritten outputs header count sheet at start before
    → WritesCore count header (strip_parts sheet row) (strip_cut across down row) before after
    (Ok tt) → RowsAreWritten outputs header count sheet (at + row.core) start after

-- Where some rows of a strip's core cannot be written of plate k, they are rows of the sheet's new
-- tints, and the rows above them are written.
abbrev pub StripIsBroken : Type 0
StripIsBroken = (outputs : List (List ℕ)) (header : Header) (count at k : ℕ) (sheet : PageParts)
    (across down : Ruler) (row : Span) (start before after : List RackState) → IsSheet sheet
    → IsNearSheet sheet → AreRulersFor traps sheet across down → IsSpan down at row
    → RowsAreWritten outputs header count sheet at start before
    → WritesCore count header (strip_parts sheet row) (strip_cut across down row) before after
    (Err (Write (Some k))) → (line n : ℕ) × (1 ≤ n) × (line + n ≤ at + row.core)
    × BreaksRows outputs header count k (λ c. new_rows sheet c line)
    (λ c. new_from traps sheet c (line * width sheet) (n * width sheet)) start after

-- What is counted in a strip's core is counted in those rows of the sheet.
abbrev pub StripIsCounted : Type 0
StripIsCounted = (at : ℕ) (sheet : PageParts) (across down : Ruler) (row : Span)
    (before after : SheetCounts) → IsSheet sheet → IsNearSheet sheet
    → AreRulersFor traps sheet across down → IsSpan down at row
    → AddsArea (strip_parts sheet row) 0 row.skip (width (strip_parts sheet row)) row.core before
    after → AddsArea sheet 0 at (width sheet) row.core before after
