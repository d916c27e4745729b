-- What is known of a sheet that is trapped strip by strip.
use Rattle.std.specs.Prelude.{◌≡◌, ℕ, ◌*◌, ◌<◌, ◌++◌, List, [], length, map, slice_index}
use Rattle.std.specs.Prelude.{slice_index_or}
use Rattle.page_model.specs.declared.parts.PageParts.{PageParts}
use Rattle.lists.specs.Words.{list_below}
use Rattle.page_model.specs.Counts.{deciding_edges, plate_changed, zone_changed, zone_samples}
use Rattle.page_model.specs.Page.{plates, sample_at, width}
use Rattle.page_model.specs.Tints.{new}
use Rattle.sheet_geometry.specs.Areas.{traps}
use Rattle.sheet_geometry.specs.declared.spans.Span.{Span}
use Rattle.sheet_geometry.specs.Plans.{tile_of}
use Rattle.sheet_geometry.specs.Tiles.{strip_rows}
use Rattle.sheet_engine.specs.declared.counts.SheetCounts.{SheetCounts}

-- each plate has its new tints in the first rows
pub record AreTintsTo (sheet : PageParts) (rows : ℕ) (out : List (List ℕ)) : Type 0 where
  pub count : length out ≡ plates sheet
  pub each : (c : ℕ) → c < plates sheet → slice_index_or out c []
      ≡ list_below (λ k. new sheet (sample_at sheet k) c) (rows * width sheet)

-- each plate has the new tints of a strip after those that it had
pub record HasStrip (sheet : PageParts) (columns : List Span) (row : Span)
    (before after : List (List ℕ)) : Type 0 where
  pub count : length after ≡ length before
  pub each : (c : ℕ) → c < plates sheet → slice_index_or after c [] ≡ slice_index_or before c []
      ++ strip_rows traps c sheet (map (λ column. tile_of column row) columns) row.core

-- the counts of the whole sheet
pub record IsCounted (sheet : PageParts) (counts : SheetCounts) : Type 0 where
  pub zones : length counts.zone_samples.items ≡ length sheet.zones
  pub zones_too : length counts.zone_changed.items ≡ length sheet.zones
  pub plates_all : length counts.plate_changed.items ≡ plates sheet
  pub zone_samples : (z : ℕ) → z < length sheet.zones
      → slice_index counts.zone_samples.items z ≡ zone_samples sheet z
  pub zone_changed : (z : ℕ) → z < length sheet.zones
      → slice_index counts.zone_changed.items z ≡ zone_changed sheet z
  pub plate_changed : (c : ℕ) → c < plates sheet
      → slice_index counts.plate_changed.items c ≡ plate_changed sheet c
  pub edges : counts.edges ≡ deciding_edges sheet
