-- The page that a window's call is for: the window, with the job's zones from its own corner.
use Rattle.std.specs.Prelude.{◌≡◌, ◌⊎◌, ℕ, ◌≤◌, Bool, ◌||◌, nat_lt, nat_abs, List, length, map}
use Rattle.std.specs.Prelude.{Option, Some, None, Result, Ok, Err, if◌then◌else◌}
use Rattle.std.specs.List.{list_any, position}
use Rattle.job_reader.specs.declared.job.Job.{Job}
use Rattle.job_reader.specs.InRange.{IsJob}
use Rattle.job_reader.specs.Jobs.{job_of}
use Rattle.page_model.specs.declared.parts.PageParts.{PageParts}
use Rattle.page_model.specs.declared.parts.Plane.{Plane}
use Rattle.page_model.specs.declared.parts.Vertex.{Vertex}
use Rattle.page_model.specs.declared.parts.Zone.{Zone}
use Rattle.page_model.specs.Limits.{most_coordinate}
use Rattle.ps_tokens.specs.declared.faults.JobFault.{JobFault}
use Rattle.common_errors.specs.declared.common.CommonError.TheVariants.{Job as JobError, Memory}
use Rattle.sheet_geometry.specs.Windows.{moved_zone, points_of}
use Rattle.trap_c.specs.declared.layout.Layout.{Layout}
use Rattle.trap_c.specs.declared.place.Place.{Place}
use Rattle.trap_c.specs.declared.error.CallFault.{CallFault}
use Rattle.trap_c.specs.declared.error.CallFault.TheVariants.{Place as PlaceFault}
use Rattle.trap_c.specs.declared.error.CallError.{CallError}
use Rattle.trap_c.specs.declared.error.CallError.TheVariants.{Call, Far, Page}
use Rattle.trap_c.specs.Fit.{call_fault}
use Rattle.trap_c.specs.Names.{names_in}
use Rattle.trap_c.specs.Pages.{page_with, error_or}
use Rattle.trap_c.specs.Places.{is_place, rows_after, suits}
use Rattle.trap_c.specs.Planes.{planes_in}
use Rattle.trap_c.specs.Requests.{Asked}

-- the job whose paths stand from the window's lower left corner
abbrev pub moved_job : Layout → Place → Job → Job
moved_job layout place job = record job {
  zones = map (moved_zone (points_of job.resolution place.left)
      (points_of job.resolution (rows_after layout place))) job.zones;
}

-- a vertex too far from the window's corner to be one of a page
abbrev pub is_far : Vertex → Bool
is_far v = nat_lt most_coordinate (nat_abs v.x) || nat_lt most_coordinate (nat_abs v.y)

-- the first zone that has such a vertex
abbrev pub first_far : List Zone → Option ℕ
first_far zones = position (λ (zone : Zone). list_any is_far zone.path) zones

-- what is made, where no zone is too far
abbrev pub unless_far : Option ℕ → Result PageParts CallError → Result PageParts CallError
unless_far (Some zone) made = Err (Far zone)
unless_far None made = made

-- what is made, where the place is right
abbrev pub placed : Bool → Result PageParts CallError → Result PageParts CallError
placed right made = if right then made else Err (Call PlaceFault)

-- the window of a job whose paths are moved
abbrev pub near_window : Job → List (List ℕ) → List Plane → Result PageParts CallError
near_window job names planes =
    unless_far (first_far job.zones) (error_or (page_with job names planes))

-- the window of a job: its place is judged by the job, then its zones, its tints, and what they
-- make
abbrev pub window_with : Layout → Place → Job → List (List ℕ) → List Plane
    → Result PageParts CallError
window_with layout place job names planes =
    placed (suits job layout place) (near_window (moved_job layout place job) names planes)

-- the window of a job that was read, or the job's fault
abbrev pub window_by : Layout → Place → Result Job JobFault → List (List ℕ) → List Plane
    → Result PageParts CallError
window_by layout place (Ok job) names planes = window_with layout place job names planes
window_by layout place (Err fault) names planes = Err (Page (JobError fault))

-- where the arguments have no fault but that of the place
abbrev pub made_unless : Option CallFault → Result PageParts CallError → Result PageParts CallError
made_unless (Some fault) made = Err (Call fault)
made_unless None made = made

-- the window of these names: the arguments are judged, the place last, and then the job, the place
-- by the job, and the planes
abbrev pub named_window : ℕ → List ℕ → List (List ℕ) → Layout → Place → List ℕ
    → Result PageParts CallError
named_window most job names layout place samples =
    made_unless (call_fault most names layout (length samples))
    (placed (is_place layout place)
    (window_by layout place (job_of job) names (planes_in layout samples (length names))))

-- the page that a window's call is for, or why there is none
abbrev pub call_window : ℕ → Asked → Place → List ℕ → Result PageParts CallError
call_window most asked place samples =
    named_window most asked.job (names_in asked.names) asked.layout place samples

-- A result of what is asked for, or that memory was refused.
abbrev pub GivesWindow : Result PageParts CallError → Result PageParts CallError → Type 0
GivesWindow made (Ok page) = made ≡ Ok page
GivesWindow made (Err error) = (error ≡ Page Memory) ⊎ (made ≡ Err error)

-- The job that these bytes are read as.
pub record IsRead (bytes : List ℕ) (job : Job) : Type 0 where
  pub is : job_of bytes ≡ Ok job
  pub range : IsJob job

-- A job in range, but for how far its vertices are from the origin.
pub record IsMovedJob (job : Job) : Type 0 where
  pub few_zones : length job.zones ≤ 251
  pub in_range : first_far job.zones ≡ None → IsJob job
