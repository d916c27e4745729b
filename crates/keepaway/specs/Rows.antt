-- The lists that the work on a page is done in: an entry for each pixel, row by row.
use Rattle.std.specs.Prelude.{◌≡◌, ℕ, ◌+◌, ◌*◌, ◌<◌, ◌≤◌, List, length, slice_index, if◌then◌else◌}
use Rattle.page_model.specs.declared.parts.At.{At}
use Rattle.page_model.specs.declared.parts.PageParts.{PageParts}
use Rattle.page_model.specs.Limits.{most_reach}
use Rattle.page_model.specs.Page.{height, width}
use Rattle.page_model.specs.Zones.{zone_of}
use Rattle.keepaway.specs.declared.parts.RichBlack.{RichBlack}
use Rattle.keepaway.specs.Keepaway.{covered, is_open, kept, level, pixel}

-- the first rows of the list have the values of their pixels
pub record HasRows (page : PageParts) (value : At → ℕ) (rows : ℕ) (list : List ℕ) : Type 0 where
  pub long : length list ≡ width page * height page
  pub each : (x y : ℕ) → x < width page → y < rows
      → slice_index list (y * width page + x) ≡ value (record { x = x; y = y })

-- the row has the values of row y
pub record IsRow (page : PageParts) (value : At → ℕ) (y : ℕ) (row : List ℕ) : Type 0 where
  pub long : length row ≡ width page
  pub each : (x : ℕ) → x < width page → slice_index row x ≡ value (record { x = x; y = y })

-- the zone of each pixel
abbrev pub AreZones : PageParts → List ℕ → Type 0
AreZones page list = HasRows page (zone_of page) (height page) list

-- how black each pixel is
abbrev pub AreLevels : PageParts → ℕ → List ℕ → Type 0
AreLevels page limit list = HasRows page (level page limit) (height page) list

-- 0 where a pixel is not covered, 2 where it is and is open, else 1
abbrev pub mark : PageParts → ℕ → At → ℕ
mark page limit p = if covered page limit p then (if is_open page p then 2 else 1) else 0

-- the mark of each pixel
abbrev pub AreMarks : PageParts → ℕ → List ℕ → Type 0
AreMarks page limit list = HasRows page (mark page limit) (height page) list

-- at this resolution the width is at most 128 pixels
abbrev pub Reaches : PageParts → RichBlack → Type 0
Reaches page rich = 2 * (rich.width * page.resolution) ≤ most_reach * pixel

-- the lists that a cover is kept in
pub record CoverLists : Type 0 where
  pub wide : ℕ
  pub tall : ℕ
  pub zones : List ℕ
  pub marks : List ℕ

-- they are those of the page
pub record IsCover (page : PageParts) (limit : ℕ) (cover : CoverLists) : Type 0 where
  pub wide : cover.wide ≡ width page
  pub tall : cover.tall ≡ height page
  pub zones : AreZones page cover.zones
  pub marks : AreMarks page limit cover.marks

-- the new tints of plate c in its first rows
abbrev pub HasKept : PageParts → RichBlack → ℕ → ℕ → List ℕ → Type 0
HasKept page rich c rows list = HasRows page (kept page rich c) rows list
