-- The ranges that everything on a page keeps, and what a page is: such parts without a fault.
use Rattle.std.specs.Prelude.{◌≡◌, ◌≢◌, ℕ, ◌*◌, ◌<◌, ◌≤◌, Bool, true, false, List, [], ◌∷◌, length}
use Rattle.std.specs.Prelude.{All, AllPairs, sum_by, nat_abs}
use Rattle.page_model.specs.declared.parts.Ink.{Ink}
use Rattle.page_model.specs.declared.parts.Limit.{Limit}
use Rattle.page_model.specs.declared.parts.PageParts.{PageParts}
use Rattle.page_model.specs.declared.parts.Plane.{Plane}
use Rattle.page_model.specs.declared.parts.Vertex.{Vertex}
use Rattle.page_model.specs.declared.parts.Zone.{Zone}
use Rattle.page_model.specs.Page.{plates, width, height, maxval, params_at, path_at}
use Rattle.page_model.specs.Parameters.{InRange}
use Rattle.page_model.specs.Planes.{plane_at}
use Rattle.page_model.specs.Reach.{zone_reach}
use Rattle.page_model.specs.Limits.{least_ink_density, most_coordinate, most_ink_density}
use Rattle.page_model.specs.Limits.{most_maxval, most_plates, most_reach, most_resolution}
use Rattle.page_model.specs.Limits.{most_samples, most_side}
use Rattle.page_model.specs.Limits.{most_vertices, most_vertices_in_all, most_zones, scale}

-- a plane within the limits, with a tint for each of its samples
pub record IsPlane (plane : Plane) : Type 0 where
  pub some_width : 1 ≤ plane.width
  pub narrow : plane.width ≤ most_side
  pub some_height : 1 ≤ plane.height
  pub low : plane.height ≤ most_side
  pub some_maxval : 1 ≤ plane.maxval
  pub maxval_fits : plane.maxval ≤ most_maxval
  pub full : length plane.tints ≡ plane.width * plane.height
  pub below : All (λ tint. tint ≤ plane.maxval) plane.tints

-- a neutral density from 0.001 to 10
pub record IsInk (ink : Ink) : Type 0 where
  pub some_density : least_ink_density ≤ ink.density
  pub most_density : ink.density ≤ most_ink_density

-- a vertex at most a million points from the origin in x and in y
pub record IsVertex (vertex : Vertex) : Type 0 where
  pub x_near : nat_abs vertex.x ≤ most_coordinate
  pub y_near : nat_abs vertex.y ≤ most_coordinate

-- a path that has a vertex begins a subpath with it
abbrev pub begins : List Vertex → Bool
begins [] = true
begins (v ∷ vs) = v.starts

-- a path begins with a start, has few enough vertices, and each is near enough
pub record IsPath (path : List Vertex) : Type 0 where
  pub begun : begins path ≡ true
  pub few : length path ≤ most_vertices
  pub near : All IsVertex path

-- each colorant has one step limit at most
pub record AreLimits (limits : List Limit) : Type 0 where
  pub once : AllPairs (λ (a b : Limit). a.name ≢ b.name) limits
  pub steps : All (λ (l : Limit). l.step ≤ scale) limits

-- a zone whose parts are in range
pub record IsZone (zone : Zone) : Type 0 where
  pub params : InRange zone.params
  pub path : IsPath zone.path
  pub limits : AreLimits zone.limits

-- what a page may be made of; zone 0 is what no path covers
pub record IsParts (page : PageParts) : Type 0 where
  pub some_plates : 1 ≤ plates page
  pub few_plates : plates page ≤ most_plates
  pub one_ink_each : length page.inks ≡ plates page
  pub some_zones : 1 ≤ length page.zones
  pub few_zones : length page.zones ≤ most_zones
  pub planes_in_range : All IsPlane page.planes
  pub inks_in_range : All IsInk page.inks
  pub zones_in_range : All IsZone page.zones
  pub zone_0 : path_at page 0 ≡ []
  pub few_vertices : sum_by (λ (z : Zone). length z.path) page.zones ≤ most_vertices_in_all
  pub fine : page.resolution ≤ most_resolution
  pub resolved : page.resolution ≡ 0
      → (length page.zones ≡ 1) × ((params_at page 0).enabled ≡ false)

-- plate c is as wide and high and deep as plate 0
pub record Agrees (page : PageParts) (c : ℕ) : Type 0 where
  pub wide : (plane_at page.planes c).width ≡ width page
  pub tall : (plane_at page.planes c).height ≡ height page
  pub deep : (plane_at page.planes c).maxval ≡ maxval page

-- a page: such parts, with none of the faults that a page is refused for
pub record IsPage (page : PageParts) : Type 0 where
  pub parts : IsParts page
  pub agree : (c : ℕ) → c < plates page → Agrees page c
  pub few_samples : width page * height page * plates page ≤ most_samples
  pub near : (z : ℕ) → z < length page.zones → zone_reach page z ≤ most_reach
