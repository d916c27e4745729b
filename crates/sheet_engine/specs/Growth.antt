-- Counts that grow by sums over rows of samples.
use Rattle.std.specs.Prelude.{◌≡◌, ℕ, ◌+◌, ◌*◌, ◌<◌, ◌≤◌, ◌^◌, List, length, slice_index}
use Rattle.page_model.specs.declared.parts.At.{At}
use Rattle.page_model.specs.declared.parts.PageParts.{PageParts}
use Rattle.lists.specs.Words.{sum_below}
use Rattle.page_model.specs.Page.{height, plates, width}
use Rattle.sheet_geometry.specs.declared.cuts.Cut.{Cut}
use Rattle.sheet_geometry.specs.Areas.{area_sum, changes_in, changes_plate, edges_at, lies_in, traps}
use Rattle.sheet_engine.specs.declared.counts.SheetCounts.{SheetCounts}

-- the sum over `wide` samples of row y, from sample `left` on
abbrev pub row_sum : (At → ℕ) → ℕ → ℕ → ℕ → ℕ
row_sum f y left wide = sum_below (λ k. f (record { x = left + k; y = y })) wide

-- n counts have each grown by so much
pub record Grows (n : ℕ) (by : ℕ → ℕ) (before after : List ℕ) : Type 0 where
  pub long : length after ≡ length before
  pub each : (z : ℕ) → z < n → slice_index after z ≡ slice_index before z + by z

-- n counts that may each grow by so much
pub record HasWorkspace (n more : ℕ) (counts : List ℕ) : Type 0 where
  pub long : length counts ≡ n
  pub low : (z : ℕ) → z < n → slice_index counts z + more < 2 ^ 64

-- a core lies on its page
pub record LiesOn (page : PageParts) (core : Cut) : Type 0 where
  pub across : core.left + core.width ≤ width page
  pub down : core.top + core.height ≤ height page

-- how the counts of a sheet have grown by what is counted in a row of a page
pub record AddsRow (page : PageParts) (y left wide : ℕ) (before after : SheetCounts)
    : Type 0 where
  pub zone_samples : Grows (length page.zones)
      (λ z. row_sum (lies_in z page) y left wide)
      before.zone_samples.items after.zone_samples.items
  pub zone_changed : Grows (length page.zones)
      (λ z. row_sum (changes_in traps z page) y left wide)
      before.zone_changed.items after.zone_changed.items
  pub plate_changed : Grows (plates page)
      (λ c. row_sum (changes_plate traps c page) y left wide)
      before.plate_changed.items after.plate_changed.items
  pub edges : after.edges ≡ before.edges + row_sum (edges_at page) y left wide

-- and by what is counted in `rows` rows
pub record AddsArea (page : PageParts) (left top wide rows : ℕ) (before after : SheetCounts)
    : Type 0 where
  pub zone_samples : Grows (length page.zones)
      (λ z. area_sum (lies_in z page) left top wide rows)
      before.zone_samples.items after.zone_samples.items
  pub zone_changed : Grows (length page.zones)
      (λ z. area_sum (changes_in traps z page) left top wide rows)
      before.zone_changed.items after.zone_changed.items
  pub plate_changed : Grows (plates page)
      (λ c. area_sum (changes_plate traps c page) left top wide rows)
      before.plate_changed.items after.plate_changed.items
  pub edges : after.edges ≡ before.edges + area_sum (edges_at page) left top wide rows

-- the counts may grow by `more` samples of the page, each with two edges
pub record HasWorkspaces (page : PageParts) (more : ℕ) (counts : SheetCounts) : Type 0 where
  pub zone_samples : HasWorkspace (length page.zones) more counts.zone_samples.items
  pub zone_changed : HasWorkspace (length page.zones) more counts.zone_changed.items
  pub plate_changed : HasWorkspace (plates page) more counts.plate_changed.items
  pub edges : counts.edges + 2 * more < 2 ^ 64
