-- The rows of the core of a strip that was trapped, and what is written of them.
use Rattle.std.specs.Prelude.{◌≡◌, ℕ, ◌+◌, ◌*◌, ◌≤◌, List, ◌++◌, map, Result, Ok, Err, Some}
use Rattle.sheet_geometry.specs.Areas.{traps}
use Rattle.sheet_geometry.specs.StripCores.{new_from}
use Rattle.outside.specs.Rack.{RackState}
use Rattle.page_model.specs.declared.parts.PageParts.{PageParts}
use Rattle.page_model.specs.Page.{width}
use Rattle.pgm_plates.specs.declared.header.Header.{Header}
use Rattle.plate_rows.specs.Images.{BreaksRows, HaveWritten}
use Rattle.common_errors.specs.declared.common.CommonError.{CommonError}
use Rattle.common_errors.specs.declared.common.CommonError.TheVariants.{Write}
use Rattle.sheet_geometry.specs.Plans.{AreRulersFor}
use Rattle.sheet_geometry.specs.Spans.{AreSpans, IsSpan}
use Rattle.sheet_stream.specs.declared.core_rows.StripCut.{StripCut}
use Rattle.sheet_engine.specs.declared.workspace.StripWorkspace.{StripWorkspace}
use Rattle.sheet_engine.specs.Workspaces.{columns_in, tiles_in}
use Rattle.sheet_engine.specs.Strips.{planes_of}

-- the strip was cut so and trapped in the room
pub record IsCutStrip (strip : PageParts) (cut : StripCut) (workspace : StripWorkspace) : Type 0 where
  pub rulers : AreRulersFor traps strip cut.across cut.down
  pub row : IsSpan cut.down cut.row.skip cut.row
  pub columns : AreSpans cut.across 0 (columns_in workspace) (width strip)
  pub tiles : tiles_in workspace ≡ map (planes_of strip cut.row) (columns_in workspace)

-- row k of the core's new tints of plate c
abbrev pub core_row_of : PageParts → StripCut → ℕ → ℕ → List ℕ
core_row_of strip cut k c = new_from traps strip c ((cut.row.skip + k) * width strip) (width strip)

-- n rows of them, from row k on
abbrev pub core_span_of : PageParts → StripCut → ℕ → ℕ → ℕ → List ℕ
core_span_of strip cut k n c =
    new_from traps strip c ((cut.row.skip + k) * width strip) (n * width strip)

-- the first rows of the core
abbrev pub core_rows_of : PageParts → StripCut → ℕ → ℕ → List ℕ
core_rows_of strip cut rows c = new_from traps strip c (cut.row.skip * width strip) (rows * width strip)

-- The files of the first plates are open, and something was written on each of them.
pub record AreOpen (header : Header) (count : ℕ) (racks : List RackState) : Type 0 where
  pub names : List (List ℕ)
  pub tints : ℕ → List ℕ
  pub start : List RackState
  pub written : HaveWritten names header count tints start racks

-- The rows of the core are written after what was written so far, up to the rows and the plate at
-- which that fails.
abbrev pub WritesCore : ℕ → Header → PageParts → StripCut → List RackState → List RackState
    → Result (Unit {0}) CommonError → Type 0
WritesCore count header strip cut before after (Ok done) = (names : List (List ℕ))
    (tints : ℕ → List ℕ) (start : List RackState)
    → HaveWritten names header count tints start before
    → HaveWritten names header count (λ c. tints c ++ core_rows_of strip cut cut.row.core c)
    start after
WritesCore count header strip cut before after (Err (Write (Some k))) = (names : List (List ℕ))
    (tints : ℕ → List ℕ) (start : List RackState)
    → HaveWritten names header count tints start before
    → (row n : ℕ) × (1 ≤ n) × (row + n ≤ cut.row.core) × BreaksRows names header count k
    (λ c. tints c ++ core_rows_of strip cut row c) (core_span_of strip cut row n) start after
WritesCore count header strip cut before after (Err other) = ⊥
