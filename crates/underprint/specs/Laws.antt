-- What can be relied on without reading the definitions.
use Rattle.std.specs.Prelude.{◌≡◌, ℕ, ◌+◌, ◌≤◌, ◌<◌, ◌⊎◌, false, List, Some}
use Rattle.lists.specs.Words.{gap, square}
use Rattle.page_model.specs.declared.parts.At.{At}
use Rattle.page_model.specs.declared.parts.PageParts.{PageParts}
use Rattle.page_model.specs.Page.{height, tint, width}
use Rattle.keepaway.specs.Keepaway.{near_limit}
use Rattle.underprint.specs.declared.parts.White.{White}
use Rattle.underprint.specs.Underprint.{covered, kept, width_of}

-- a pixel of the page that is not covered, at most the width and half a pixel away
pub record NearEdge (page : PageParts) (whites : List White) (wide : ℕ) (p : At) : Type 0 where
  pub x : ℕ
  pub y : ℕ
  pub in_row : x < width page
  pub on_page : y < height page
  pub free : covered page whites (record { x = x; y = y }) ≡ false
  pub near : square (gap p.x x) + square (gap p.y y) ≤ near_limit wide page.resolution

-- plate c is an underprint, and the tint is that of a pixel within its width that is not covered
pub record Drawn (page : PageParts) (whites : List White) (c : ℕ) (p : At) : Type 0 where
  pub wide : ℕ
  pub is : width_of page whites c ≡ Some wide
  pub edge : NearEdge page whites wide p
  pub to : kept page whites c p ≡ tint page c (record { x = edge.x; y = edge.y })

-- no ink is gained, and a tint changes only on the plate of an underprint, at a pixel that is
-- covered, to that of a pixel near by that is not covered
pub record Locality (page : PageParts) (whites : List White) (c : ℕ) (p : At) : Type 0 where
  pub less : kept page whites c p ≤ tint page c p
  pub stored : (kept page whites c p ≡ tint page c p) ⊎ Drawn page whites c p
  pub covered : covered page whites p ≡ false → kept page whites c p ≡ tint page c p
