-- What it means to judge a job and plates of which nothing is kept but the headers.
use Rattle.std.specs.Prelude.{◌≡◌, ℕ, ◌<◌, IsTrue, List, length, None, Option, Result, Ok, Err}
use Rattle.job_reader.specs.declared.job.Job.{Job}
use Rattle.outside.specs.Tray.{TrayState}
use Rattle.page_files.specs.Inputs.{Sources, sources}
use Rattle.page_model.specs.declared.parts.PageParts.{PageParts}
use Rattle.page_model.specs.Page.{height, maxval, width}
use Rattle.pgm_plates.specs.declared.header.Header.{Header}
use Rattle.pgm_plates.specs.declared.plate.Plate.{Plate as PlateRead}
use Rattle.common_errors.specs.declared.common.CommonError.TheVariants.{Memory, Read}
use Rattle.sheet_geometry.specs.Areas.{traps}
use Rattle.sheet_geometry.specs.declared.budget.Budget.{Budget}
use Rattle.sheet_geometry.specs.CommonErrors.{sheet_error}
use Rattle.sheet_files.specs.declared.planning.PlannedSheet.{PlannedSheet}
use Rattle.sheet_files.specs.declared.error.TrapsheetError.{TrapsheetError}
use Rattle.sheet_files.specs.declared.error.TrapsheetError.TheVariants.{Common}
use Rattle.sheet_files.specs.Gathering.{AsksAll, FailsToRead, IsMadeSheet, RefusesFiles}
use Rattle.sheet_files.specs.Gathering.{TakesTrays}
use Rattle.sheet_files.specs.Inputs.{Spells, plates_by}
use Rattle.sheet_files.specs.Planning.{header_of}
use Rattle.sheet_files.specs.SheetFiles.{IsSheetFile}
use Rattle.sheet_files.specs.Steps.{ReadsFirst}
use Rattle.plate_rows.specs.Trays.{IsCalm, tray_at}
use Rattle.sheet_geometry.specs.Outline.{IsOutlineSheet, outline_sheet}
use Rattle.sheet_geometry.specs.Planned.{IsPlanFor}

-- the header that each plate of a sheet has
abbrev pub header_in : PageParts → Header
header_in sheet =
    record { width = width sheet; height = height sheet; maxval = maxval sheet }

-- A sheet was judged that is bare so. Each plate whose tray tells its file has the sheet's header,
-- and where all do, the sheet is the one that the job and the plates make.
pub record IsJudged (source : Sources) (budget : Budget) (trays : List TrayState)
    (judged : PlannedSheet) : Type 0 where
  pub valid : IsOutlineSheet judged.outline
  pub blank : outline_sheet judged.outline ≡ judged.outline
  pub accepted : sheet_error judged.outline ≡ None
  pub plan : IsPlanFor traps judged.outline budget judged.plan
  pub sheet : PageParts
  pub made : IsMadeSheet source trays sheet
  pub same : outline_sheet sheet ≡ judged.outline
  pub headers : (k : ℕ) → k < length source.inputs → IsTrue (tray_at trays k).tells
      → Spells (plates_by trays source.inputs k) (λ bytes. (plate : PlateRead)
      × IsSheetFile bytes plate × (header_of plate ≡ header_in judged.outline))

-- what the answer says of the files' bytes, where they are known, and of the names that were handed
-- out
pub data AnswersJudging (source : Sources) (budget : Budget) (before after : List TrayState)
    (result : Result PlannedSheet TrapsheetError) : Type 0 where
  judged : (sheet : PlannedSheet) → result ≡ Ok sheet → IsJudged source budget before sheet
      → ((k : ℕ) → k < length source.inputs → AsksAll source before after k)
      → ((k : ℕ) → IsCalm before after k) → AnswersJudging source budget before after result
  refused : (error : TrapsheetError) → result ≡ Err error → RefusesFiles source before after error
      → AnswersJudging source budget before after result
  unread : (file : Option ℕ) → result ≡ Err (Common (Read file))
      → FailsToRead source before after file → AnswersJudging source budget before after result
  no_memory : result ≡ Err (Common Memory) → ((k : ℕ) → IsCalm before after k)
      → AnswersJudging source budget before after result

-- The job and the plates are read, and the sheet is judged that they make.
pub record JudgesSheet (source : Sources) (budget : Budget) (before after : List TrayState)
    (result : Result PlannedSheet TrapsheetError) : Type 0 where
  pub takes : TakesTrays source before after
  pub answer : AnswersJudging source budget before after result

-- After a job that was read, the plates are judged.
abbrev pub JudgesRest : List (List ℕ) → List (List ℕ) → Budget → Job → List TrayState
    → List TrayState → Result PlannedSheet TrapsheetError → Type 0
JudgesRest names inputs budget job between after result = (name : List ℕ)
    (before : List TrayState) → ReadsFirst name before between (Ok job)
    → JudgesSheet (sources name names inputs) budget before after result
