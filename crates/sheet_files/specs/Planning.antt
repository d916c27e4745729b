-- The sheet that a job and the headers of plates make, all of it but its tints, and how it is to
-- be trapped.
use Rattle.std.specs.Prelude.{◌≡◌, ℕ, ◌≤◌, All, List, [], length, map, Some, None, Result, Ok, Err}
use Rattle.job_reader.specs.declared.job.Job.{Job}
use Rattle.page_files.specs.Assembly.{assembled, parts_of_planes}
use Rattle.page_model.specs.declared.parts.PageParts.{PageParts}
use Rattle.page_model.specs.declared.parts.Plane.{Plane}
use Rattle.page_model.specs.Page.{plates}
use Rattle.pgm_plates.specs.declared.bounds.Bounds.TheVariants.{Sheet}
use Rattle.pgm_plates.specs.declared.header.Header.{Header}
use Rattle.pgm_plates.specs.declared.plate.Plate.{Plate}
use Rattle.pgm_plates.specs.Rows.{IsWithin, plane_with}
use Rattle.common_errors.specs.declared.common.CommonError.TheVariants.{Memory}
use Rattle.sheet_geometry.specs.Areas.{traps}
use Rattle.sheet_geometry.specs.declared.budget.Budget.{Budget}
use Rattle.sheet_geometry.specs.declared.sheet_errors.SheetError.{SheetError}
use Rattle.sheet_geometry.specs.CommonErrors.{sheet_error}
use Rattle.sheet_files.specs.declared.planning.PlannedSheet.{PlannedSheet}
use Rattle.sheet_files.specs.declared.error.TrapsheetError.{TrapsheetError}
use Rattle.sheet_files.specs.declared.error.TrapsheetError.TheVariants.{Common, OfSheet}
use Rattle.sheet_files.specs.Inputs.{sheet_of}
use Rattle.sheet_files.specs.SheetFiles.{IsSheetPlate}
use Rattle.sheet_geometry.specs.Planned.{IsPlanFor}
use Rattle.sheet_geometry.specs.Outline.{IsOutlineSheet, IsOutlinePlane, outline_sheet}
use Rattle.sheet_geometry.specs.Sheets.{IsSheet}
use Rattle.page_model.specs.Limits.{most_plates, most_sheet_side}

-- the header of a plate
abbrev pub header_of : Plate → Header
header_of plate = record { width = plate.width; height = plate.height; maxval = plate.maxval }

-- a plane of a header, without its tints
abbrev pub plane_for : Header → Plane
plane_for header = plane_with header []

-- the sheet of these headers without its tints, in the order of the names
abbrev pub outline_for : Job → List Header → List (List ℕ) → PageParts
outline_for job headers names = parts_of_planes job (map plane_for headers) names

-- as many names as headers, each in range
pub record CanPlan (headers : List Header) (names : List (List ℕ)) : Type 0 where
  pub some : 1 ≤ length headers
  pub few : length headers ≤ most_plates
  pub named : length names ≡ length headers
  pub in_range : All (IsWithin Sheet) headers

-- as many names as planes without tints, each in range
pub record CanPlanPlanes (planes : List Plane) (names : List (List ℕ)) : Type 0 where
  pub some : 1 ≤ length planes
  pub few : length planes ≤ most_plates
  pub named : length names ≡ length planes
  pub in_range : All IsOutlinePlane planes
  pub narrow : All (λ (plane : Plane). plane.width ≤ most_sheet_side) planes
  pub low : All (λ (plane : Plane). plane.height ≤ most_sheet_side) planes

-- plates of a sheet that have these headers
pub record HaveHeaders (plates : List Plate) (headers : List Header) : Type 0 where
  pub in_range : All IsSheetPlate plates
  pub same : map header_of plates ≡ headers

-- these plates make a sheet, which is bare so
pub record MakesWhole (job : Job) (plates : List Plate) (names : List (List ℕ))
    (outline : PageParts) : Type 0 where
  pub made : sheet_of job plates names ≡ Ok (assembled job plates names)
  pub sheet : IsSheet (assembled job plates names)
  pub same : outline_sheet (assembled job plates names) ≡ outline

-- The parts are a bare sheet, which is planned; or they are refused.
pub data PlansParts (budget : Budget) (outline : PageParts)
    (result : Result PlannedSheet TrapsheetError) : Type 0 where
  planned : (sheet : PlannedSheet) → result ≡ Ok sheet → sheet.outline ≡ outline → IsOutlineSheet outline
      → sheet_error outline ≡ None → IsPlanFor traps outline budget sheet.plan
      → PlansParts budget outline result
  refused : (common_error : SheetError) → result ≡ Err (OfSheet common_error)
      → sheet_error outline ≡ Some common_error → PlansParts budget outline result
  no_memory : result ≡ Err (Common Memory) → PlansParts budget outline result

-- The bare sheet is planned of which all plates of these headers make a sheet; or all are refused.
pub data PlansSheet (budget : Budget) (job : Job) (headers : List Header)
    (names : List (List ℕ)) (result : Result PlannedSheet TrapsheetError) : Type 0 where
  planned : (sheet : PlannedSheet) → result ≡ Ok sheet → IsOutlineSheet sheet.outline
      → outline_sheet sheet.outline ≡ sheet.outline → sheet_error sheet.outline ≡ None
      → plates sheet.outline ≡ length headers
      → IsPlanFor traps sheet.outline budget sheet.plan → ((plates : List Plate) → HaveHeaders plates headers
      → MakesWhole job plates names sheet.outline) → PlansSheet budget job headers names result
  refused : (error : TrapsheetError) → result ≡ Err error → ((plates : List Plate)
      → HaveHeaders plates headers → sheet_of job plates names ≡ Err error)
      → PlansSheet budget job headers names result
  no_memory : result ≡ Err (Common Memory) → PlansSheet budget job headers names result
