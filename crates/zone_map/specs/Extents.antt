-- Between which heights the vertices of a path lie.
use Rattle.std.specs.Prelude.{◌≡◌, ℕ, ◌<◌, ◌≤◌, List, All, int_le, length, nat_abs}
use Rattle.std.specs.Prelude.{slice_index_or, true}
use Rattle.page_model.specs.declared.parts.PageParts.{PageParts}
use Rattle.page_model.specs.declared.parts.Vertex.{Vertex}
use Rattle.page_model.specs.Page.{path_at}
use Rattle.page_model.specs.Zones.{corner}
use Rattle.zone_map.specs.declared.extent.Extent.{Extent}
use Rattle.zone_map.specs.PagePoints.{furthest}

-- heights within the range of vertices
pub record IsLow (extent : Extent) : Type 0 where
  pub low : nat_abs extent.low ≤ furthest
  pub high : nat_abs extent.high ≤ furthest

-- a vertex that is between them
pub record IsBetween (resolution : ℕ) (extent : Extent) (v : Vertex) : Type 0 where
  pub low : int_le extent.low (corner resolution v).py ≡ true
  pub high : int_le (corner resolution v).py extent.high ≡ true

-- a path whose vertices are
abbrev pub Spans : ℕ → Extent → List Vertex → Type 0
Spans resolution extent path = All (IsBetween resolution extent) path

-- the extents of the paths of a page's zones, zone by zone
pub record SpansZones (page : PageParts) (extents : List Extent) : Type 0 where
  pub long : length page.zones ≤ length extents
  pub near : (z : ℕ) (d : Extent) → z < length page.zones → IsLow (slice_index_or extents z d)
  pub each : (z : ℕ) (d : Extent) → z < length page.zones
      → Spans page.resolution (slice_index_or extents z d) (path_at page z)
