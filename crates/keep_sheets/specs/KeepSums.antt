-- Counts of keepaway that grow by what is counted in a core.
use Rattle.std.specs.Prelude.{◌≡◌, ℕ, ◌+◌, ◌*◌, ◌<◌, ◌^◌, ◌==◌, not, List, length, slice_index}
use Rattle.page_model.specs.declared.parts.PageParts.{PageParts}
use Rattle.page_model.specs.Page.{height, plates, width}
use Rattle.sheet_geometry.specs.declared.cuts.Cut.{Cut}
use Rattle.keep_pages.specs.declared.uses.KeepUse.{KeepUse}
use Rattle.keep_pages.specs.KeptPages.{covered}
use Rattle.keep_sheets.specs.KeepSheets.{changes_at, core_sum, covers_at}
use Rattle.keep_sheets.specs.declared.counts.KeepCounts.{KeepCounts}

-- a list with an entry for each pixel of a page, row by row: 0 where it is not covered
pub record AreMarks (page : PageParts) (used : KeepUse) (marks : List ℕ) : Type 0 where
  pub long : length marks ≡ width page * height page
  pub each : (x y : ℕ) → x < width page → y < height page
      → not (slice_index marks (y * width page + x) == 0)
      ≡ covered page used (record { x = x; y = y })

-- each count may grow by so much
pub record HasRoom (page : PageParts) (more : ℕ) (counts : KeepCounts) : Type 0 where
  pub covered : counts.covered + more < 2 ^ 64
  pub long : length counts.changed.items ≡ plates page
  pub changed : (c : ℕ) → c < plates page → slice_index counts.changed.items c + more < 2 ^ 64

-- the counts have grown by what is counted in a core: the covered pixels, and those of each plate
-- that change
pub record AddsKept (page : PageParts) (used : KeepUse) (core : Cut) (before after : KeepCounts)
    : Type 0 where
  pub covered : after.covered ≡ before.covered + core_sum (covers_at used page) core
  pub long : length after.changed.items ≡ length before.changed.items
  pub changed : (c : ℕ) → c < plates page → slice_index after.changed.items c
      ≡ slice_index before.changed.items c + core_sum (changes_at used c page) core
