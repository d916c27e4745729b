-- A sheet: what a page may be made of, whatever its sides and however many its samples.
use Rattle.std.specs.Prelude.{◌≡◌, ℕ, ◌+◌, ◌*◌, ◌<◌, ◌≤◌, false, [], length, All, sum_by, nat_abs}
use Rattle.page_model.specs.declared.parts.PageParts.{PageParts}
use Rattle.page_model.specs.declared.parts.Plane.{Plane}
use Rattle.page_model.specs.declared.parts.Vertex.{Vertex}
use Rattle.page_model.specs.declared.parts.Zone.{Zone}
use Rattle.page_model.specs.Conditions.{Agrees, IsInk, IsZone}
use Rattle.page_model.specs.Limits.{most_coordinate, most_maxval, most_plates, most_reach}
use Rattle.page_model.specs.Limits.{most_resolution, most_samples, most_side, most_vertices_in_all}
use Rattle.page_model.specs.Limits.{most_zones}
use Rattle.page_model.specs.Page.{height, params_at, path_at, plates, width}
use Rattle.page_model.specs.Reach.{zone_reach}
use Rattle.sheet_geometry.specs.declared.cuts.Cut.{Cut}
use Rattle.sheet_geometry.specs.Windows.{points_of}

-- a plane with a tint for each of its samples
pub record IsSheetPlane (plane : Plane) : Type 0 where
  pub some_width : 1 ≤ plane.width
  pub some_height : 1 ≤ plane.height
  pub some_maxval : 1 ≤ plane.maxval
  pub maxval_fits : plane.maxval ≤ most_maxval
  pub full : length plane.tints ≡ plane.width * plane.height
  pub below : All (λ tint. tint ≤ plane.maxval) plane.tints

-- what a sheet may be made of: that of a page, without the limits of its sides
pub record IsSheetParts (sheet : PageParts) : Type 0 where
  pub some_plates : 1 ≤ plates sheet
  pub few_plates : plates sheet ≤ most_plates
  pub one_ink_each : length sheet.inks ≡ plates sheet
  pub some_zones : 1 ≤ length sheet.zones
  pub few_zones : length sheet.zones ≤ most_zones
  pub planes_in_range : All IsSheetPlane sheet.planes
  pub inks_in_range : All IsInk sheet.inks
  pub zones_in_range : All IsZone sheet.zones
  pub zone_0 : path_at sheet 0 ≡ []
  pub few_vertices : sum_by (λ (z : Zone). length z.path) sheet.zones ≤ most_vertices_in_all
  pub fine : sheet.resolution ≤ most_resolution
  pub resolved : sheet.resolution ≡ 0
      → (length sheet.zones ≡ 1) × ((params_at sheet 0).enabled ≡ false)

-- a sheet: such parts, with none of the faults that a page is refused for, but that of its samples
pub record IsSheet (sheet : PageParts) : Type 0 where
  pub parts : IsSheetParts sheet
  pub agree : (c : ℕ) → c < plates sheet → Agrees sheet c
  pub near : (z : ℕ) → z < length sheet.zones → zone_reach sheet z ≤ most_reach

-- a vertex that is in range from each corner of the sheet
pub record IsNearVertex (sheet : PageParts) (v : Vertex) : Type 0 where
  pub x : nat_abs v.x + points_of sheet.resolution (width sheet) ≤ most_coordinate
  pub y : nat_abs v.y + points_of sheet.resolution (height sheet) ≤ most_coordinate

-- a sheet each of whose vertices is
abbrev pub IsNearSheet : PageParts → Type 0
IsNearSheet sheet = All (λ (z : Zone). All (IsNearVertex sheet) z.path) sheet.zones

-- a window within the limits of a page
pub record IsSmall (sheet : PageParts) (cut : Cut) : Type 0 where
  pub narrow : cut.width ≤ most_side
  pub low : cut.height ≤ most_side
  pub few_samples : cut.width * cut.height * plates sheet ≤ most_samples
