-- A sheet cut by rulers: a window for each span of its columns and each span of its rows.
use Rattle.std.specs.Prelude.{◌≡◌, ℕ, ◌*◌, ◌%◌, ◌<◌, ◌≤◌, false, true, List, length, map}
use Rattle.page_model.specs.declared.parts.PageParts.{PageParts}
use Rattle.page_model.specs.Columns.{halo}
use Rattle.page_model.specs.Limits.{most_samples, most_side, scale}
use Rattle.page_model.specs.Page.{height, plates, width}
use Rattle.sheet_geometry.specs.PageRules.{PageRule}
use Rattle.sheet_geometry.specs.declared.spans.Ruler.{Ruler}
use Rattle.sheet_geometry.specs.declared.spans.Span.{Span}
use Rattle.sheet_geometry.specs.Sheets.{IsSmall}
use Rattle.sheet_geometry.specs.Spans.{AreSpans, IsSpan}
use Rattle.sheet_geometry.specs.Tiles.{IsTile, IsTiling, Strip, Tile}

-- the window of these columns and rows, and its core
abbrev pub tile_of : Span → Span → Tile
tile_of column row = record {
  cut = record { left = column.from; top = row.from; width = column.wide; height = row.wide };
  core = record { left = column.skip; top = row.skip; width = column.core; height = row.core };
}

-- the windows of these rows
abbrev pub strip_of : List Span → Span → Strip
strip_of columns row =
    record { tall = row.core; tiles = map (λ column. tile_of column row) columns }

-- by steps of `step` samples a corner moves by a whole number of ten-thousandths of a point
abbrev pub IsStep : ℕ → ℕ → Type 0
IsStep resolution step = (72 * scale * step) % resolution ≡ 0

-- Rulers for the columns and the rows of a sheet, for windows with that halo. Steps are counted from
-- its lower left corner, and matter where it has paths.
pub record AreRulers (near : ℕ) (sheet : PageParts) (across down : Ruler) : Type 0 where
  pub wide : across.side ≡ width sheet
  pub tall : down.side ≡ height sheet
  pub halo_across : across.halo ≡ near
  pub halo_down : down.halo ≡ near
  pub from_left : across.from_end ≡ false
  pub from_bottom : down.from_end ≡ true
  pub step_across : 1 < length sheet.zones → IsStep sheet.resolution across.step
  pub step_down : 1 < length sheet.zones → IsStep sheet.resolution down.step

-- rulers for windows that reach as far as a rule
abbrev pub AreRulersFor : PageRule → PageParts → Ruler → Ruler → Type 0
AreRulersFor rule sheet across down = AreRulers (halo (rule.reach sheet)) sheet across down

-- windows that are small enough for a page
pub record AreSmall (sheet : PageParts) (across down : Ruler) : Type 0 where
  pub narrow : across.most ≤ most_side
  pub low : down.most ≤ most_side
  pub few_samples : across.most * down.most * plates sheet ≤ most_samples

-- spans by these rulers make tiles, and all spans of both sides a tiling
pub record PlanLaw (near : ℕ) (sheet : PageParts) (across down : Ruler) : Type 0 where
  pub tiles : (x y : ℕ) (column row : Span) → IsSpan across x column → IsSpan down y row
      → IsTile near sheet (tile_of column row) x y row.core
  pub small : (x y : ℕ) (column row : Span) → IsSpan across x column → IsSpan down y row
      → AreSmall sheet across down → IsSmall sheet (tile_of column row).cut
  pub tiling : (columns rows : List Span) → AreSpans across 0 columns (width sheet)
      → AreSpans down 0 rows (height sheet)
      → IsTiling near sheet 0 (map (strip_of columns) rows)
