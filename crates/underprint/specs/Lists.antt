-- The lists that the work on a page is done in: an entry for each pixel, row by row.
use Rattle.std.specs.Prelude.{◌≡◌, ℕ, ◌*◌, ◌<◌, ◌≤◌, List, if◌then◌else◌}
use Rattle.page_model.specs.declared.parts.At.{At}
use Rattle.page_model.specs.declared.parts.PageParts.{PageParts}
use Rattle.page_model.specs.Limits.{most_reach}
use Rattle.page_model.specs.Page.{height, tint, width}
use Rattle.draw_back.specs.Fields.{Lists, entry}
use Rattle.keepaway.specs.Keepaway.{pixel}
use Rattle.keepaway.specs.Rows.{HasRows}
use Rattle.underprint.specs.declared.parts.White.{White}
use Rattle.underprint.specs.Underprint.{covered, has_colour, kept}

-- 1 where a pixel has colour, else 0
abbrev pub colour_level : PageParts → List White → At → ℕ
colour_level page whites p = if has_colour page whites p then 1 else 0

-- whether each pixel has colour
abbrev pub AreColours : PageParts → List White → List ℕ → Type 0
AreColours page whites list = HasRows page (colour_level page whites) (height page) list

-- 2 where a pixel is covered, else 0
abbrev pub mark : PageParts → List White → At → ℕ
mark page whites p = if covered page whites p then 2 else 0

-- the mark of each pixel
abbrev pub AreMarks : PageParts → List White → List ℕ → Type 0
AreMarks page whites list = HasRows page (mark page whites) (height page) list

-- at this resolution the width is at most 128 pixels
abbrev pub Reaches : PageParts → ℕ → Type 0
Reaches page wide = 2 * (wide * page.resolution) ≤ most_reach * pixel

-- the marks and the tints of plate c
pub record IsField (page : PageParts) (whites : List White) (c : ℕ) (lists : Lists) : Type 0 where
  pub wide : lists.wide ≡ width page
  pub tall : lists.tall ≡ height page
  pub marks : (x y : ℕ) → x < width page → y < height page
      → entry lists.marks lists.wide x y ≡ mark page whites (record { x = x; y = y })
  pub tints : (x y : ℕ) → x < width page → y < height page
      → entry lists.tints lists.wide x y ≡ tint page c (record { x = x; y = y })

-- the new tints of plate c in its first rows
abbrev pub HasKept : PageParts → List White → ℕ → ℕ → List ℕ → Type 0
HasKept page whites c rows list = HasRows page (kept page whites c) rows list
