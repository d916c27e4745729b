-- A window of a sheet: some of its columns and rows as a page of their own.
use Rattle.std.specs.Prelude.{◌≡◌, ℕ, ◌+◌, ◌-◌, ◌*◌, ◌/◌, ◌%◌, ◌<◌, ◌≤◌, length, map, slice_index}
use Rattle.std.specs.Prelude.{pos, ◌-ℤ◌}
use Rattle.page_model.specs.declared.parts.At.{At}
use Rattle.page_model.specs.declared.parts.EdgeAt.{EdgeAt}
use Rattle.page_model.specs.declared.parts.PageParts.{PageParts}
use Rattle.page_model.specs.declared.parts.Plane.{Plane}
use Rattle.page_model.specs.declared.parts.Vertex.{Vertex}
use Rattle.page_model.specs.declared.parts.Zone.{Zone}
use Rattle.lists.specs.Words.{list_below}
use Rattle.page_model.specs.Limits.{scale}
use Rattle.page_model.specs.Page.{width, height, plates}
use Rattle.sheet_geometry.specs.declared.cuts.Cut.{Cut}

-- where a sample of a window lies on the sheet
abbrev pub on_sheet : Cut → At → At
on_sheet cut p = record { x = cut.left + p.x; y = cut.top + p.y }

-- and an edge of the window
abbrev pub edge_on_sheet : Cut → EdgeAt → EdgeAt
edge_on_sheet cut e = record { x2 = 2 * cut.left + e.x2; y2 = 2 * cut.top + e.y2 }

-- the rows of the sheet below a window: the origin of the vertices is the lower left corner
abbrev pub rows_below : PageParts → Cut → ℕ
rows_below sheet cut = height sheet - (cut.top + cut.height)

-- a length in samples as one in ten-thousandths of a point, rounded down: an inch has 72 points,
-- and as many samples as the resolution
abbrev pub points_of : ℕ → ℕ → ℕ
points_of resolution samples = (72 * scale * samples) / resolution

-- a vertex from an origin that stands so far to the right and up
abbrev pub moved_vertex : ℕ → ℕ → Vertex → Vertex
moved_vertex right up v = record { x = v.x -ℤ pos right; y = v.y -ℤ pos up; starts = v.starts }

-- a zone whose path stands from that origin
abbrev pub moved_zone : ℕ → ℕ → Zone → Zone
moved_zone right up zone = record {
  params = zone.params;
  path = map (moved_vertex right up) zone.path;
  limits = zone.limits;
}

-- the columns and rows of a plane, of a sheet of `wide` columns, that a window shows
abbrev pub shown_plane : ℕ → Cut → Plane → Plane
shown_plane wide cut plane = record {
  width = cut.width;
  height = cut.height;
  maxval = plane.maxval;
  tints = list_below (λ k. slice_index plane.tints
      ((cut.top + k / cut.width) * wide + (cut.left + k % cut.width))) (cut.width * cut.height);
}

-- how far to the right and up the window's lower left corner stands from the sheet's
abbrev pub right_of : PageParts → Cut → ℕ
right_of sheet cut = points_of sheet.resolution cut.left

abbrev pub up_of : PageParts → Cut → ℕ
up_of sheet cut = points_of sheet.resolution (rows_below sheet cut)

-- the window as a page: its columns and rows of each plane, the same inks, and the same zones from
-- its own corner
abbrev pub window : PageParts → Cut → PageParts
window sheet cut = record {
  resolution = sheet.resolution;
  planes = map (shown_plane (width sheet) cut) sheet.planes;
  inks = sheet.inks;
  zones = map (moved_zone (right_of sheet cut) (up_of sheet cut)) sheet.zones;
}

-- a length in samples that is a whole number of ten-thousandths of a point
abbrev pub IsExact : ℕ → ℕ → Type 0
IsExact resolution samples = points_of resolution samples * resolution ≡ 72 * scale * samples

-- A cut of a sheet: its window has samples and lies on the sheet. Where the sheet has paths, the
-- window's corner is a whole number of ten-thousandths of a point from the sheet's.
pub record IsCut (sheet : PageParts) (cut : Cut) : Type 0 where
  pub some_plates : 1 ≤ plates sheet
  pub some_zones : 1 ≤ length sheet.zones
  pub some_width : 1 ≤ cut.width
  pub some_height : 1 ≤ cut.height
  pub across : cut.left + cut.width ≤ width sheet
  pub down : cut.top + cut.height ≤ height sheet
  pub exact_right : 1 < length sheet.zones → IsExact sheet.resolution cut.left
  pub exact_up : 1 < length sheet.zones → IsExact sheet.resolution (rows_below sheet cut)
