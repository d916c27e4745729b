-- Where a window stands on its sheet: what a call takes as a place, and what a job asks of one.
use Rattle.std.specs.Prelude.{ℕ, ◌+◌, ◌-◌, ◌*◌, ◌%◌, ◌≤◌, Bool, ◌==◌, ◌&&◌, ◌||◌, max}
use Rattle.std.specs.Prelude.{nat_le, length, []}
use Rattle.job_reader.specs.declared.job.Job.{Job}
use Rattle.page_model.specs.declared.parts.PageParts.{PageParts}
use Rattle.page_model.specs.Columns.{halo}
use Rattle.page_model.specs.Limits.{most_sheet_side, scale}
use Rattle.page_model.specs.Reach.{page_reach}
use Rattle.sheet_geometry.specs.declared.cuts.Cut.{Cut}
use Rattle.sheet_geometry.specs.Tiles.{Tile}
use Rattle.trap_c.specs.declared.layout.Layout.{Layout}
use Rattle.trap_c.specs.declared.place.Along.{Along}
use Rattle.trap_c.specs.declared.place.Place.{Place}

-- the window's columns and rows on its sheet
abbrev pub cut_of : Layout → Place → Cut
cut_of layout place = record {
  left = place.left;
  top = place.top;
  width = layout.width;
  height = layout.height;
}

-- the core's columns and rows in the window
abbrev pub core_of : Place → Cut
core_of place = record {
  left = place.core_left;
  top = place.core_top;
  width = place.core_width;
  height = place.core_height;
}

-- the window and its core
abbrev pub tile_of : Layout → Place → Tile
tile_of layout place = record { cut = cut_of layout place; core = core_of place }

-- the columns of a place, and its rows
abbrev pub across_of : Layout → Place → Along
across_of layout place = record {
  side = place.sheet_width;
  from = place.left;
  wide = layout.width;
  core_from = place.core_left;
  core = place.core_width;
}

abbrev pub down_of : Layout → Place → Along
down_of layout place = record {
  side = place.sheet_height;
  from = place.top;
  wide = layout.height;
  core_from = place.core_top;
  core = place.core_height;
}

-- the window lies on a sheet, and its core, which is not empty, in the window
abbrev pub lies_along : Along → Bool
lies_along along = nat_le along.side most_sheet_side && nat_le (along.from + along.wide) along.side
    && nat_le 1 along.core && nat_le (along.core_from + along.core) along.wide

abbrev pub is_place : Layout → Place → Bool
is_place layout place =
    lies_along (across_of layout place) && lies_along (down_of layout place)

-- on each side that is no border of the sheet the window goes on beyond its core by `more` samples
abbrev pub is_wide_along : ℕ → Along → Bool
is_wide_along more along = ((along.from == 0) || nat_le more along.core_from)
    && ((along.from + along.wide == along.side)
    || nat_le (along.core_from + along.core + more) along.wide)

abbrev pub is_wide : ℕ → Layout → Place → Bool
is_wide more layout place =
    is_wide_along more (across_of layout place) && is_wide_along more (down_of layout place)

-- what a job gives a page of no planes
abbrev pub job_parts : Job → PageParts
job_parts job = record { resolution = job.resolution; planes = []; inks = []; zones = job.zones }

-- the reach of a job in half-samples: the greatest of its zones
abbrev pub job_reach : Job → ℕ
job_reach job = page_reach (job_parts job)

-- how far a window has to go on beyond its core: half the reach, in whole samples, and one sample
-- at least, since an edge is counted at the sample before it
abbrev pub job_halo : Job → ℕ
job_halo job = max 1 (halo (job_reach job))

-- `samples` samples are a whole number of ten-thousandths of a point
abbrev pub is_exact : ℕ → ℕ → Bool
is_exact resolution samples = (72 * scale * samples) % resolution == 0

-- the rows of the sheet below the window
abbrev pub rows_after : Layout → Place → ℕ
rows_after layout place = place.sheet_height - (place.top + layout.height)

-- the window's lower left corner is at the step
abbrev pub is_at_step : ℕ → Layout → Place → Bool
is_at_step resolution layout place =
    is_exact resolution place.left && is_exact resolution (rows_after layout place)

-- the halo is wide enough for a job, and where it has paths the corner is at the step
abbrev pub suits : Job → Layout → Place → Bool
suits job layout place = is_wide (job_halo job) layout place
    && (nat_le (length job.zones) 1 || is_at_step job.resolution layout place)

-- The window lies on a sheet, and its core, which is not empty, in the window.
pub record IsPlaced (layout : Layout) (place : Place) : Type 0 where
  pub narrow : place.sheet_width ≤ most_sheet_side
  pub low : place.sheet_height ≤ most_sheet_side
  pub across : place.left + layout.width ≤ place.sheet_width
  pub down : place.top + layout.height ≤ place.sheet_height
  pub core_wide : 1 ≤ place.core_width
  pub core_tall : 1 ≤ place.core_height
  pub core_across : place.core_left + place.core_width ≤ layout.width
  pub core_down : place.core_top + place.core_height ≤ layout.height
