-- Bare sheets: all of a sheet but its tints. A job and the headers of plates tell it.
use Rattle.std.specs.Prelude.{◌≡◌, ℕ, ◌*◌, ◌<◌, ◌≤◌, false, [], length, map, All, sum_by}
use Rattle.page_model.specs.declared.parts.PageParts.{PageParts}
use Rattle.page_model.specs.declared.parts.Plane.{Plane}
use Rattle.page_model.specs.declared.parts.Zone.{Zone}
use Rattle.page_model.specs.Conditions.{Agrees, IsInk, IsZone}
use Rattle.page_model.specs.Limits.{most_maxval, most_plates, most_reach, most_resolution}
use Rattle.page_model.specs.Limits.{most_vertices_in_all, most_zones}
use Rattle.page_model.specs.Page.{params_at, path_at, plates}
use Rattle.page_model.specs.Reach.{zone_reach}

-- a plane without its tints
abbrev pub outline_plane : Plane → Plane
outline_plane plane =
    record { width = plane.width; height = plane.height; maxval = plane.maxval; tints = [] }

-- a sheet without its tints
abbrev pub outline_sheet : PageParts → PageParts
outline_sheet sheet = record {
  resolution = sheet.resolution;
  planes = map outline_plane sheet.planes;
  inks = sheet.inks;
  zones = sheet.zones;
}

-- the sides and the maxval of a plane are in range
pub record IsOutlinePlane (plane : Plane) : Type 0 where
  pub some_width : 1 ≤ plane.width
  pub some_height : 1 ≤ plane.height
  pub some_maxval : 1 ≤ plane.maxval
  pub maxval_fits : plane.maxval ≤ most_maxval

-- what a sheet may be made of, whatever its tints
pub record IsOutlineParts (outline : PageParts) : Type 0 where
  pub some_plates : 1 ≤ plates outline
  pub few_plates : plates outline ≤ most_plates
  pub one_ink_each : length outline.inks ≡ plates outline
  pub some_zones : 1 ≤ length outline.zones
  pub few_zones : length outline.zones ≤ most_zones
  pub planes_in_range : All IsOutlinePlane outline.planes
  pub inks_in_range : All IsInk outline.inks
  pub zones_in_range : All IsZone outline.zones
  pub zone_0 : path_at outline 0 ≡ []
  pub few_vertices : sum_by (λ (z : Zone). length z.path) outline.zones ≤ most_vertices_in_all
  pub fine : outline.resolution ≤ most_resolution
  pub resolved : outline.resolution ≡ 0
      → (length outline.zones ≡ 1) × ((params_at outline 0).enabled ≡ false)

-- a sheet, whatever its tints: such parts, with none of the faults of a page but that of its
-- samples
pub record IsOutlineSheet (outline : PageParts) : Type 0 where
  pub parts : IsOutlineParts outline
  pub agree : (c : ℕ) → c < plates outline → Agrees outline c
  pub near : (z : ℕ) → z < length outline.zones → zone_reach outline z ≤ most_reach

-- a plane with a tint for each of its samples
pub record IsFull (plane : Plane) : Type 0 where
  pub full : length plane.tints ≡ plane.width * plane.height
  pub below : All (λ tint. tint ≤ plane.maxval) plane.tints
