-- What can be relied on without reading the definitions: the zone is the last that covers; far
-- from edges nothing changes.
use Rattle.std.specs.Prelude.{◌≡◌, ℕ, ◌<◌, true, false, length, Some, None}
use Rattle.page_model.specs.declared.parts.At.{At}
use Rattle.page_model.specs.declared.parts.EdgeAt.{EdgeAt}
use Rattle.page_model.specs.declared.parts.PageParts.{PageParts}
use Rattle.page_model.specs.Decider.{decider}
use Rattle.page_model.specs.Page.{tint}
use Rattle.page_model.specs.Tints.{new}
use Rattle.page_model.specs.Within.{within}
use Rattle.page_model.specs.Zones.{covers}

-- zone z is a zone of the page, it covers the sample unless it is zone 0, and no later zone does
pub record IsZoneOf (page : PageParts) (p : At) (z : ℕ) : Type 0 where
  pub known : z < length page.zones
  pub covered : 0 < z → covers page p z ≡ true
  pub last : (k : ℕ) → z < k → k < length page.zones → covers page p k ≡ false

-- the sample keeps its tint in every plate
abbrev pub Keeps : PageParts → At → Type 0
Keeps page p = (c : ℕ) → new page p c ≡ tint page c p

-- a sample without a decider, or whose decider is not within, keeps its tints
pub record KeepsUnlessWithin (page : PageParts) (p : At) : Type 0 where
  pub none : decider page p ≡ None → Keeps page p
  pub far : (e : EdgeAt) → decider page p ≡ Some e → within page p e ≡ false → Keeps page p
