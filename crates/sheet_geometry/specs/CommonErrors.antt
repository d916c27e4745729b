-- Why a sheet is refused: for a fault of a page, but that of its samples; and above the limits of
-- a page for a vertex too far from a corner of the sheet, or for a step that is too long.
use Rattle.std.specs.Prelude.{ℕ, suc, ◌+◌, ◌*◌, ◌%◌, ◌==◌, ◌&&◌, ◌||◌, Bool, not, nat_lt, nat_abs}
use Rattle.std.specs.Prelude.{length, Option, Some, None, if◌then◌else◌}
use Rattle.std.specs.List.{list_any}
use Rattle.std.specs.Option.{option_map}
use Rattle.lists.specs.Words.{any_below, first_some, or_else}
use Rattle.page_model.specs.declared.parts.PageParts.{PageParts}
use Rattle.page_model.specs.declared.parts.Vertex.{Vertex}
use Rattle.page_model.specs.declared.page.PageFault.{PageFault}
use Rattle.page_model.specs.Faults.{difference, too_wide}
use Rattle.page_model.specs.Limits.{most_coordinate, most_samples, most_side, scale}
use Rattle.page_model.specs.Page.{height, path_at, plates, width}
use Rattle.sheet_geometry.specs.declared.sheet_errors.SheetError.{SheetError}
use Rattle.sheet_geometry.specs.declared.sheet_errors.SheetError.TheVariants.{Far, Fault, Uncut}
use Rattle.sheet_geometry.specs.Windows.{points_of}

-- the longest step that sheets are cut by, in samples
abbrev pub most_step : ℕ
most_step = 2048

-- a sheet above the limits of a page: in a side, or in the samples of all plates
abbrev pub is_large : PageParts → Bool
is_large sheet = nat_lt most_side (width sheet) || (nat_lt most_side (height sheet)
    || nat_lt most_samples (width sheet * height sheet * plates sheet))

-- a vertex of which a coordinate's size and the sheet's side that way, both in ten-thousandths of a
-- point, are together too much
abbrev pub is_far_by : ℕ → ℕ → Vertex → Bool
is_far_by wide tall v = nat_lt most_coordinate (nat_abs v.x + wide)
    || nat_lt most_coordinate (nat_abs v.y + tall)

-- by the sides of a sheet
abbrev pub is_far : PageParts → Vertex → Bool
is_far sheet v = is_far_by (points_of sheet.resolution (width sheet))
    (points_of sheet.resolution (height sheet)) v

-- zone z has such a vertex
abbrev pub far : PageParts → ℕ → Option SheetError
far sheet z = if list_any (is_far sheet) (path_at sheet z) then Some (Far z) else None

-- some samples, at most the longest step, are a whole number of ten-thousandths of a point
unfoldable pub has_step : ℕ → Bool
has_step resolution = any_below (λ k. (72 * scale * suc k) % resolution == 0) most_step

-- there are paths, and no such step
abbrev pub uncut : PageParts → Option SheetError
uncut sheet =
    if nat_lt 1 (length sheet.zones) && not (has_step sheet.resolution) then Some Uncut else None

-- why a sheet cannot be cut: the first zone that is too far, then the step
abbrev pub cut_fault : PageParts → Option SheetError
cut_fault sheet = or_else (first_some (far sheet) (length sheet.zones)) (uncut sheet)

-- within the limits of a page it need not be cut
abbrev pub large_fault : PageParts → Option SheetError
large_fault sheet = if is_large sheet then cut_fault sheet else None

-- what a page is refused for, but that of its samples
abbrev pub parts_fault : PageParts → Option PageFault
parts_fault sheet = or_else (first_some (difference sheet) (plates sheet))
    (first_some (too_wide sheet) (length sheet.zones))

-- the first fault of a sheet, in the order in which faults are judged
abbrev pub sheet_error : PageParts → Option SheetError
sheet_error sheet = or_else (option_map Fault (parts_fault sheet)) (large_fault sheet)
