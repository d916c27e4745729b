-- What a window's call does, and what the call for the halo does.
use Rattle.std.specs.Prelude.{◌≡◌, ◌≢◌, ◌⊎◌, ℕ, ◌+◌, ◌<◌, List, [], Result, Ok, Err, length, map}
use Rattle.std.specs.Prelude.{slice_index}
use Rattle.job_reader.specs.declared.job.Job.{Job}
use Rattle.job_reader.specs.Jobs.{job_of}
use Rattle.page_files.specs.Assembly.{parts_of_planes}
use Rattle.page_model.specs.declared.parts.PageParts.{PageParts}
use Rattle.page_model.specs.Page.{height, plates, width}
use Rattle.page_model.specs.Tints.{new}
use Rattle.ps_tokens.specs.declared.faults.JobFault.{JobFault}
use Rattle.ps_tokens.specs.declared.faults.JobError.{JobError}
use Rattle.ps_tokens.specs.declared.faults.JobError.TheVariants.{Fault, OutOfMemory}
use Rattle.common_errors.specs.declared.common.CommonError.TheVariants.{Job as JobFaulty, Memory}
use Rattle.common_errors.specs.Statuses.{done}
use Rattle.page_model.specs.Columns.{halo}
use Rattle.page_model.specs.Reach.{page_reach}
use Rattle.sheet_geometry.specs.Areas.{area_sum, changes_in, changes_plate, edges_at, lies_in, traps}
use Rattle.sheet_geometry.specs.Sheets.{IsSheet}
use Rattle.sheet_geometry.specs.Tiles.{IsTile}
use Rattle.sheet_geometry.specs.Windows.{shown_plane, window}
use Rattle.sheet_engine.specs.Growth.{LiesOn}
use Rattle.trap_c.specs.declared.layout.Layout.{Layout}
use Rattle.trap_c.specs.declared.place.Place.{Place}
use Rattle.trap_c.specs.declared.error.CallError.{CallError}
use Rattle.trap_c.specs.declared.error.CallError.TheVariants.{Page}
use Rattle.trap_c.specs.declared.work.Done.{Done}
use Rattle.trap_c.specs.declared.work.Told.{Told}
use Rattle.trap_c.specs.Calls.{IsWorked, Tells}
use Rattle.trap_c.specs.Cores.{IsBeside, core_counts, core_run, sum_over}
use Rattle.trap_c.specs.Fit.{AreSides}
use Rattle.trap_c.specs.Names.{names_in}
use Rattle.trap_c.specs.Places.{IsPlaced, core_of, cut_of, job_halo, tile_of}
use Rattle.trap_c.specs.Planes.{planes_in}
use Rattle.trap_c.specs.ReportRecords.{AreFew}
use Rattle.trap_c.specs.Requests.{Asked}
use Rattle.trap_c.specs.Errors.{line_of_error, status_of_error}
use Rattle.trap_c.specs.Windows.{call_window}
use Rattle.trap_report.specs.Report.{sided_report_of}

-- the core's part of the report of a window
abbrev pub core_report : Place → PageParts → List ℕ
core_report place page = sided_report_of page place.sheet_width place.sheet_height
    (core_counts page (core_of place))

-- The work for the window that was to be made; or why there is none, which may be that memory was
-- refused.
abbrev pub WorksWindow : ℕ → Layout → Place → List ℕ → Result PageParts CallError
    → Result Done CallError → Type 0
WorksWindow most layout place before made (Ok work) =
    (page : PageParts) × (made ≡ Ok page)
    × IsWorked most layout before page (core_report place page) work
    × LiesOn page (core_of place)
    × IsPlaced layout place
    × AreSides layout
    × (work.counts ≡ core_counts page (core_of place))
    × AreFew work.counts
WorksWindow most layout place before made (Err error) = (error ≡ Page Memory) ⊎ (made ≡ Err error)

-- A sheet of a job, with the sides that the place gives, that shows these samples in the window.
pub record IsSheetOf (job : Job) (asked : Asked) (place : Place) (samples : List ℕ)
    (sheet : PageParts) : Type 0 where
  pub ranges : IsSheet sheet
  pub wide : width sheet ≡ place.sheet_width
  pub tall : height sheet ≡ place.sheet_height
  pub made : sheet ≡ parts_of_planes job sheet.planes (names_in asked.names)
  pub shown : map (shown_plane (width sheet) (cut_of asked.layout place)) sheet.planes
      ≡ planes_in asked.layout samples (length (names_in asked.names))

-- What a window's call says of a sheet: the page that was trapped is the sheet's window there, and
-- its core a core; the samples of the core are the sheet's new tints, and all that is counted in
-- the core is what is counted there on the sheet.
pub record IsOnSheet (layout : Layout) (place : Place) (page sheet : PageParts) (after : List ℕ)
    : Type 0 where
  pub window_is : window sheet (cut_of layout place) ≡ page
  pub tile : IsTile (halo (page_reach sheet)) sheet (tile_of layout place)
      (place.left + place.core_left) (place.top + place.core_top) place.core_height
  pub tints : (c y x : ℕ) → c < plates sheet → y < place.core_height → x < place.core_width
      → slice_index after (core_run layout (core_of place) c y + x) ≡ new sheet (record {
        x = place.left + (place.core_left + x);
        y = place.top + (place.core_top + y);
      }) c
  pub zone_samples : (z : ℕ) → sum_over (core_of place) (lies_in z page)
      ≡ area_sum (lies_in z sheet) (place.left + place.core_left) (place.top + place.core_top)
      place.core_width place.core_height
  pub zone_changed : (z : ℕ) → sum_over (core_of place) (changes_in traps z page)
      ≡ area_sum (changes_in traps z sheet) (place.left + place.core_left)
      (place.top + place.core_top) place.core_width place.core_height
  pub plate_changed : (c : ℕ) → sum_over (core_of place) (changes_plate traps c page)
      ≡ area_sum (changes_plate traps c sheet) (place.left + place.core_left)
      (place.top + place.core_top) place.core_width place.core_height
  pub edges : sum_over (core_of place) (edges_at page)
      ≡ area_sum (edges_at sheet) (place.left + place.core_left) (place.top + place.core_top)
      place.core_width place.core_height

-- The core of a window after trapping, as it stands in the samples.
pub record HasCore (most : ℕ) (asked : Asked) (place : Place) (before after : List ℕ)
    (page : PageParts) : Type 0 where
  -- it is that page's
  pub page_is : call_window most asked place before ≡ Ok page
  -- the core's samples are the page's new tints
  pub core : (c y x : ℕ) → c < plates page → y < place.core_height → x < place.core_width
      → slice_index after (core_run asked.layout (core_of place) c y + x)
      ≡ new page (record { x = place.core_left + x; y = place.core_top + y }) c
  -- all other samples are as they were
  pub rest : (k : ℕ) → ((c y : ℕ) → c < plates page → y < place.core_height
      → IsBeside k (core_run asked.layout (core_of place) c y) place.core_width)
      → slice_index after k ≡ slice_index before k
  -- and whatever sheet of the job it is that shows these samples there, all that is so on it
  pub sheets : (job : Job) (sheet : PageParts) → job_of asked.job ≡ Ok job
      → IsSheetOf job asked place before sheet
      → IsOnSheet asked.layout place page sheet after

-- What is made of a window: its core, and the core's part of the report. Or all samples stay, and
-- there is the error that the arguments call for, or memory was refused.
abbrev pub MakesWindow : ℕ → Asked → Place → List ℕ → List ℕ → Result Told CallError → Type 0
MakesWindow most asked place before after (Ok told) =
    (page : PageParts) × HasCore most asked place before after page
    × (told.report ≡ core_report place page) × (told.counts ≡ core_counts page (core_of place))
    × AreFew told.counts
MakesWindow most asked place before after (Err error) =
    (after ≡ before)
    × ((error ≡ Page Memory) ⊎ (call_window most asked place before ≡ Err error))

-- A window's call that is done: the samples have the core, and the text is the core's part of the
-- report.
pub record HasTrapped (most : ℕ) (asked : Asked) (place : Place) (before after text text' : List ℕ)
    (len : ℕ) (page : PageParts) : Type 0 where
  pub samples : HasCore most asked place before after page
  pub reported : Tells (core_report place page) text text' len

abbrev pub SucceedsWindow : ℕ → Asked → Place → List ℕ → List ℕ → List ℕ → List ℕ → ℕ → Type 0
SucceedsWindow most asked place before after text text' len =
    (page : PageParts) × HasTrapped most asked place before after text text' len page

-- A window's call that is refused: all samples stay, the status and the line are those of the error
-- that the arguments call for, or of memory that was refused.
abbrev pub RefusesWindow : ℕ → Asked → Place → List ℕ → List ℕ → List ℕ → List ℕ → ℕ → ℕ → Type 0
RefusesWindow most asked place before after text text' len status =
    (error : CallError)
    × (status ≡ status_of_error error)
    × (after ≡ before)
    × Tells (line_of_error error) text text' len
    × ((error ≡ Page Memory) ⊎ (call_window most asked place before ≡ Err error))

-- What a window's call does to the samples, which hold numbers up to `most`, to the text and to its
-- length, by its status.
pub record TrapsWindow (most : ℕ) (asked : Asked) (place : Place)
    (before after text text' : List ℕ) (len status : ℕ) : Type 0 where
  pub success : status ≡ done → SucceedsWindow most asked place before after text text' len
  pub refused : status ≢ done → RefusesWindow most asked place before after text text' len status

-- why a job is not read
abbrev pub error_of_job : JobError → CallError
error_of_job (Fault fault) = Page (JobFaulty fault)
error_of_job OutOfMemory = Page Memory

-- the halo of a job that was read; or why it is not answered, which may be that memory was refused
abbrev pub HaloIs : List ℕ → ℕ → Type 0
HaloIs bytes halo = (job : Job) × (job_of bytes ≡ Ok job) × (halo ≡ job_halo job)

abbrev pub JobRefused : List ℕ → CallError → Type 0
JobRefused bytes error = (error ≡ Page Memory)
    ⊎ ((fault : JobFault) × (job_of bytes ≡ Err fault) × (error ≡ Page (JobFaulty fault)))

abbrev pub HaloRefused : List ℕ → ℕ → CallError → Type 0
HaloRefused bytes status error = (status ≡ status_of_error error) × JobRefused bytes error

-- What the call for the halo does.
pub record TellsHalo (bytes : List ℕ) (halo halo' : ℕ) (text text' : List ℕ) (len status : ℕ)
    : Type 0 where
  pub success : status ≡ done → HaloIs bytes halo' × Tells [] text text' len
  pub refused : status ≢ done → (halo' ≡ halo) × ((error : CallError)
      × HaloRefused bytes status error × Tells (line_of_error error) text text' len)
