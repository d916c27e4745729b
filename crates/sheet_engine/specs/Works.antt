-- The counts of the windows of a strip, from none on.
use Rattle.std.specs.Prelude.{◌≡◌, ℕ, ◌+◌, ◌<◌, ◌^◌, List, length, replicate, slice_index}
use Rattle.page_model.specs.declared.parts.PageParts.{PageParts}
use Rattle.page_model.specs.Page.{plates}
use Rattle.sheet_engine.specs.Growth.{AddsArea, Grows}
use Rattle.sheet_engine.specs.declared.counts.SheetCounts.{SheetCounts}

-- counts that are all 0
pub record AreNone (sheet : PageParts) (counts : SheetCounts) : Type 0 where
  pub zone_samples : counts.zone_samples.items ≡ replicate (length sheet.zones) 0
  pub zone_changed : counts.zone_changed.items ≡ replicate (length sheet.zones) 0
  pub plate_changed : counts.plate_changed.items ≡ replicate (plates sheet) 0
  pub edges : counts.edges ≡ 0

-- what is counted in an area of a sheet, and nothing else
pub record HasArea (sheet : PageParts) (left top wide rows : ℕ)
    (counts : SheetCounts) : Type 0 where
  pub before : SheetCounts
  pub none : AreNone sheet before
  pub adds : AddsArea sheet left top wide rows before counts

-- to each count the other of its place can be added
pub record CanAddEach (counts more : List ℕ) : Type 0 where
  pub long : length more ≡ length counts
  pub few : (z : ℕ) → z < length counts → slice_index counts z + slice_index more z < 2 ^ 64

-- and to all counts of a sheet
pub record CanAdd (counts more : SheetCounts) : Type 0 where
  pub zone_samples : CanAddEach counts.zone_samples.items more.zone_samples.items
  pub zone_changed : CanAddEach counts.zone_changed.items more.zone_changed.items
  pub plate_changed : CanAddEach counts.plate_changed.items more.plate_changed.items
  pub edges : counts.edges + more.edges < 2 ^ 64

-- and it is
pub record AreAdded (before more after : SheetCounts) : Type 0 where
  pub zone_samples : Grows (length before.zone_samples.items)
      (slice_index more.zone_samples.items) before.zone_samples.items after.zone_samples.items
  pub zone_changed : Grows (length before.zone_changed.items)
      (slice_index more.zone_changed.items) before.zone_changed.items after.zone_changed.items
  pub plate_changed : Grows (length before.plate_changed.items)
      (slice_index more.plate_changed.items) before.plate_changed.items after.plate_changed.items
  pub edges : after.edges ≡ before.edges + more.edges
