-- The zones of small pages, worked out by hand.
use Rattle.std.proofs.Common.{◌≡◌, ℕ, List, [], ◌∷◌, ◌++◌, refl, true, false}
use Rattle.page_model.specs.declared.parts.PageParts.{PageParts}
use Rattle.page_model.specs.declared.parts.Zone.{Zone}
use Rattle.page_model.specs.Page.{sample_at, samples}
use Rattle.lists.specs.Words.{list_below}
use Rattle.page_model.specs.Zones.{zone_of, covers, turn, lean}
use Rattle.page_model.proofs.WorkedPages.{usual, off, page, planes, cyan, zone, vertex, box, box_back, shop}

-- a page of 4 by 2 samples, each a point wide
abbrev small : List Zone → PageParts
small zones = page 72 (planes 4 2 255 ((255 ∷ 255 ∷ 255 ∷ 255 ∷ 255 ∷ 255 ∷ 255 ∷ 255 ∷ []) ∷ [])) (cyan ∷ []) (zone off [] ∷ zones)

abbrev zones_of : PageParts → List ℕ
zones_of p = list_below (λ k. zone_of p (sample_at p k)) (samples p)

-- sides through the middles of samples: the left and the lower belong to the zone, the right and the upper do not
pub through_middles : zones_of (small (zone usual (box 5000 5000 25000 15000) ∷ [])) ≡ 0 ∷ 0 ∷ 0 ∷ 0 ∷ 1 ∷ 1 ∷ 0 ∷ 0 ∷ []
unfolding zone_of covers turn lean
through_middles = refl

-- the way round does not matter
pub clockwise : zones_of (small (zone usual (box_back 5000 5000 25000 15000) ∷ [])) ≡ 0 ∷ 0 ∷ 0 ∷ 0 ∷ 1 ∷ 1 ∷ 0 ∷ 0 ∷ []
unfolding zone_of covers turn lean
clockwise = refl

-- later zones cover earlier ones
pub later_covers : zones_of (small (zone usual (box 0 0 40000 20000) ∷ zone usual (box 20000 0 40000 20000) ∷ [])) ≡ 1 ∷ 1 ∷ 2 ∷ 2 ∷ 1 ∷ 1 ∷ 2 ∷ 2 ∷ []
unfolding zone_of covers turn lean
later_covers = refl

pub earlier_inside : zones_of (small (zone usual (box 20000 0 40000 20000) ∷ zone usual (box 0 0 40000 20000) ∷ [])) ≡ 2 ∷ 2 ∷ 2 ∷ 2 ∷ 2 ∷ 2 ∷ 2 ∷ 2 ∷ []
unfolding zone_of covers turn lean
earlier_inside = refl

-- a part that is wound round twice is covered, and one that is wound round once each way is not
pub twice_round : zones_of (small (zone usual (box 0 0 40000 20000 ++ box 10000 0 20000 20000) ∷ [])) ≡ 1 ∷ 1 ∷ 1 ∷ 1 ∷ 1 ∷ 1 ∷ 1 ∷ 1 ∷ []
unfolding zone_of covers turn lean
twice_round = refl

pub round_and_back : zones_of (small (zone usual (box 0 0 40000 20000 ++ box_back 10000 0 20000 20000) ∷ [])) ≡ 1 ∷ 0 ∷ 1 ∷ 1 ∷ 1 ∷ 0 ∷ 1 ∷ 1 ∷ []
unfolding zone_of covers turn lean
round_and_back = refl

-- a path without an area covers nothing
pub no_area : zones_of (small (zone usual (vertex 0 0 true ∷ vertex 40000 20000 false ∷ []) ∷ [])) ≡ 0 ∷ 0 ∷ 0 ∷ 0 ∷ 0 ∷ 0 ∷ 0 ∷ 0 ∷ []
unfolding zone_of covers turn lean
no_area = refl

pub shop_zones : zones_of shop ≡ 1 ∷ 1 ∷ 1 ∷ 1 ∷ 1 ∷ 1 ∷ 1 ∷ 1 ∷ 1 ∷ 2 ∷ 2 ∷ 2 ∷ 1 ∷ 1 ∷ 1 ∷ 1 ∷ 1 ∷ 1 ∷ 1 ∷ 1 ∷ 1 ∷ 2 ∷ 2 ∷ 2 ∷ []
unfolding zone_of covers turn lean
shop_zones = refl
