-- What can be relied on without reading the definitions.
use Rattle.std.specs.Prelude.{◌≡◌, ℕ, ◌+◌, ◌*◌, ◌≤◌, ◌<◌, ◌⊎◌, false}
use Rattle.lists.specs.Words.{gap, square}
use Rattle.page_model.specs.declared.parts.At.{At}
use Rattle.page_model.specs.declared.parts.PageParts.{PageParts}
use Rattle.page_model.specs.Page.{height, tint, width}
use Rattle.keepaway.specs.declared.parts.RichBlack.{RichBlack}
use Rattle.keepaway.specs.Keepaway.{covered, is_open, kept, near_limit}

-- a pixel of the page that is not covered, at most the width and half a pixel away
pub record NearEdge (page : PageParts) (rich : RichBlack) (p : At) : Type 0 where
  pub x : ℕ
  pub y : ℕ
  pub in_row : x < width page
  pub on_page : y < height page
  pub free : covered page rich.limit (record { x = x; y = y }) ≡ false
  pub near : square (gap p.x x) + square (gap p.y y) ≤ near_limit rich.width page.resolution

-- no ink is gained, and a tint changes only at a pixel that is covered and open, to that of a pixel
-- near by that is not covered
pub record Locality (page : PageParts) (rich : RichBlack) (c : ℕ) (p : At) : Type 0 where
  pub less : kept page rich c p ≤ tint page c p
  pub stored : (kept page rich c p ≡ tint page c p)
      ⊎ ((edge : NearEdge page rich p)
      × (kept page rich c p ≡ tint page c (record { x = edge.x; y = edge.y })))
  pub covered : covered page rich.limit p ≡ false → kept page rich c p ≡ tint page c p
  pub shut : is_open page p ≡ false → kept page rich c p ≡ tint page c p

-- the greatest squared distance compares the width uncut: in whole numbers, at 72 points an inch
abbrev pub LimitLaw : ℕ → ℕ → Type 0
LimitLaw wide resolution = (d2 : ℕ)
    → (d2 ≤ near_limit wide resolution → d2 * square 720000 ≤ square (wide * resolution + 360000))
    × (d2 * square 720000 ≤ square (wide * resolution + 360000) → d2 ≤ near_limit wide resolution)
