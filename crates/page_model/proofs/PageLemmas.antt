-- What a page's conditions give of a plate, a zone and a sample.
use Rattle.std.proofs.Common.{ℕ, ◌+◌, ◌*◌, ◌<◌, ◌≤◌, length, arith}
use Rattle.std.proofs.lemmas.Nat.{mul-add-lt}
use Rattle.page_model.specs.declared.parts.At.{At}
use Rattle.page_model.specs.declared.parts.PageParts.{PageParts}
use Rattle.page_model.specs.Conditions.{IsPage, IsPlane}
use Rattle.page_model.specs.Page.{plates, width, height, maxval, place, tint, InPage}
use Rattle.page_model.specs.Planes.{plane_at, no_plane}

pub plane_of : (page : PageParts) (c : ℕ) → IsPage page → c < plates page → IsPlane (plane_at page.planes c)
plane_of page c valid l = valid.parts.planes_in_range c no_plane l

-- each sample has its place in each plane
pub place_stored : (page : PageParts) (c : ℕ) (p : At) → IsPage page → c < plates page → InPage page p → place page p < length (plane_at page.planes c).tints
place_stored page c p valid l h =
    let plane = plane_of page c valid l in
    let same = valid.agree c l in
    let inside : p.y * width page + p.x < width page * height page = mul-add-lt p.y (width page) p.x (height page) h.y h.x in
    omega (arith, inside, plane.full, rw (same.wide, same.tall) at plane.full)

-- no tint is above the maxval
pub tint_at_most : (page : PageParts) (c : ℕ) (p : At) → IsPage page → c < plates page → InPage page p → tint page c p ≤ maxval page
tint_at_most page c p valid l h =
    let plane = plane_of page c valid l in
    rw (← (valid.agree c l).deep) (plane.below (place page p) 0 (place_stored page c p valid l h))
