-- What it means to read a job and plates, and to make a sheet of them.
use Rattle.std.specs.Prelude.{◌≡◌, ◌≢◌, ◌⊎◌, ℕ, zero, suc, ◌<◌, ◌≤◌, IsTrue, List, [], ◌∷◌, length}
use Rattle.std.specs.Prelude.{Option, Some, None, Ok, Err}
use Rattle.job_reader.specs.declared.job.Job.{Job}
use Rattle.job_reader.specs.Jobs.{job_of}
use Rattle.outside.specs.ErrorCases.{Rose, Asks, AsksPrefix}
use Rattle.outside.specs.Tray.{TrayState, KeepsTray}
use Rattle.page_files.specs.Inputs.{Sources, name_at}
use Rattle.page_files.specs.Looks.{IsLast}
use Rattle.page_files.specs.Steps.{TakesJob, TakesPlate}
use Rattle.page_model.specs.declared.parts.PageParts.{PageParts}
use Rattle.page_model.specs.Page.{plates}
use Rattle.pgm_plates.specs.declared.plate.Plate.{Plate as PlateRead}
use Rattle.pgm_plates.specs.declared.plate.PlateError.TheVariants.{Fault}
use Rattle.pgm_plates.specs.Reading.{KeepsCount}
use Rattle.common_errors.specs.declared.common.CommonError.TheVariants.{Job as JobFails, NoDetails}
use Rattle.common_errors.specs.declared.common.CommonError.TheVariants.{Plate, Read}
use Rattle.sheet_geometry.specs.CommonErrors.{sheet_error}
use Rattle.sheet_geometry.specs.Sheets.{IsSheet}
use Rattle.sheet_files.specs.Inputs.{AreSpelled, MakesSheet, Spells, stored_by, plates_by}
use Rattle.sheet_files.specs.Steps.{IsFaultless}
use Rattle.plate_rows.specs.Trays.{IsCalm, tray_at}
use Rattle.sheet_files.specs.Trays.{AllTell, files_twice, tray_files}
use Rattle.sheet_files.specs.Verdicts.{IsSheetVerdict, Refused}
use Rattle.sheet_files.specs.declared.error.TrapsheetError.{TrapsheetError}
use Rattle.sheet_files.specs.declared.error.TrapsheetError.TheVariants.{Changed, Common, OfSheet}

-- The plate of that name was opened last, and no more was taken of it than is owed.
abbrev pub HasPlate : List ℕ → TrayState → TrayState → Type 0
HasPlate name before after = TakesPlate name before after × IsLast name after

-- Tray k is as it was, or no more was taken of the file that it opened last than is owed, be it the
-- job or its plate.
abbrev pub InHand : Sources → ℕ → TrayState → TrayState → Type 0
InHand source zero before after =
    (after ≡ before) ⊎ (TakesJob source.job before after × IsLast source.job after)
    ⊎ HasPlate (name_at source.inputs zero) before after
InHand source (suc k) before after =
    (after ≡ before) ⊎ HasPlate (name_at source.inputs (suc k)) before after

-- Each tray is asked for its own files alone, and those of no plate are as they were.
pub record TakesTrays (source : Sources) (before after : List TrayState) : Type 0 where
  pub keeps : (k : ℕ) → KeepsTray (tray_at before k) (tray_at after k)
  pub asked : (k : ℕ)
      → AsksPrefix (tray_at before k).asked (tray_at after k).asked (tray_files source k)
  pub in_hand : (k : ℕ) → InHand source k (tray_at before k) (tray_at after k)
  pub beyond : (k : ℕ) → length source.inputs ≤ k → tray_at after k ≡ tray_at before k

-- Tray k was asked for all of its files, once.
abbrev pub AsksAll : Sources → List TrayState → List TrayState → ℕ → Type 0
AsksAll source before after k =
    Asks (tray_at before k).asked (tray_at after k).asked (tray_files source k)

-- Tray k was asked for all of its files, and then for its plate once more.
abbrev pub AsksTwice : Sources → List TrayState → List TrayState → ℕ → Type 0
AsksTwice source before after k =
    Asks (tray_at before k).asked (tray_at after k).asked (files_twice source k)

-- The first tray was asked for the job alone, and the others for nothing.
pub record AsksJob (source : Sources) (before after : List TrayState) : Type 0 where
  pub first : Asks (tray_at before 0).asked (tray_at after 0).asked (source.job ∷ [])
  pub others : (k : ℕ) → k ≢ 0 → tray_at after k ≡ tray_at before k

-- The files that were opened where that stop comes: the job alone if it is refused or can't be
-- read. Of the plates after a refused plate nothing is said.
abbrev pub AsksTo : Sources → TrapsheetError → List TrayState → List TrayState → Type 0
AsksTo source (Common (JobFails fault)) before after = AsksJob source before after
AsksTo source (Common (Read None)) before after = AsksJob source before after
AsksTo source (Common (Plate plate fault)) before after =
    (k : ℕ) → k ≤ plate → AsksAll source before after k
AsksTo source (Common (Read (Some plate))) before after =
    (k : ℕ) → k ≤ plate → AsksAll source before after k
AsksTo source other before after =
    (k : ℕ) → k < length source.inputs → AsksAll source before after k

-- No fault of a tray is passed over where that stop comes, but of the plates after the one that
-- is refused. A sample above the maxval may be among the bytes that came before a failed read.
abbrev pub CalmTo : TrapsheetError → List TrayState → List TrayState → Type 0
CalmTo (Common (JobFails fault)) before after = (k : ℕ) → IsCalm before after k
CalmTo (Common (Plate plate fault)) before after = ((k : ℕ) → k < plate → IsCalm before after k)
    × KeepsCount {T = PlateRead} (tray_at before plate) (tray_at after plate) (Err (Fault fault))
CalmTo (Common (Read None)) before after = (k : ℕ) → k ≢ 0 → IsCalm before after k
CalmTo (Common (Read (Some plate))) before after =
    (k : ℕ) → k < plate → IsCalm before after k
CalmTo other before after = (k : ℕ) → IsCalm before after k

-- whether a stop is for what the files are
abbrev pub IsOfInput : TrapsheetError → Type 0
IsOfInput (Common (JobFails fault)) = Unit {0}
IsOfInput (Common (NoDetails plate)) = Unit {0}
IsOfInput (Common (Plate plate fault)) = Unit {0}
IsOfInput (Common other) = ⊥
IsOfInput (OfSheet common_error) = Unit {0}
IsOfInput (Changed plate) = ⊥

-- The files are refused.
pub record RefusesFiles (source : Sources) (before after : List TrayState)
    (error : TrapsheetError) : Type 0 where
  pub of_input : IsOfInput error
  pub verdict : AllTell (length source.inputs) before
      → IsSheetVerdict (stored_by before source) source.names (Refused error)
  pub begun : AsksTo source error before after
  pub count : CalmTo error before after

-- the tray of a file that is read: that of the plate, or the first one for the job
abbrev pub tray_of : Option ℕ → ℕ
tray_of None = 0
tray_of (Some plate) = plate

-- The read of a plate failed: the job and the plates before it are read, and of its own bytes
-- those that were taken have no fault but an early end.
pub record PlateBreaks (source : Sources) (plate : ℕ)
    (before after : List TrayState) : Type 0 where
  pub known : plate < length source.inputs
  pub job : Job
  pub plates : List PlateRead
  pub job_read : IsTrue (tray_at before 0).tells
      → Spells ((tray_at before 0).file source.job) (λ bytes. job_of bytes ≡ Ok job)
  pub before_it : AllTell plate before
      → AreSpelled (plates_by before source.inputs) plate plates
  pub taken : IsFaultless (name_at source.inputs plate) (tray_at before plate)
      (tray_at after plate)

-- what was read before the read that failed
abbrev pub BreaksReading : Sources → Option ℕ → List TrayState → List TrayState → Type 0
BreaksReading source None before after = Unit {0}
BreaksReading source (Some plate) before after = PlateBreaks source plate before after

-- The read of that file failed.
pub record FailsToRead (source : Sources) (before after : List TrayState)
    (file : Option ℕ) : Type 0 where
  pub rose : Rose (tray_at before (tray_of file)).faults (tray_at after (tray_of file)).faults
  pub begun : AsksTo source (Common (Read file)) before after
  pub count : CalmTo (Common (Read file)) before after
  pub breaks : BreaksReading source file before after

-- A sheet without a fault, of as many plates as there are files, and the one that the job and the
-- plates make, where the trays tell their bytes.
pub record IsMadeSheet (source : Sources) (trays : List TrayState)
    (sheet : PageParts) : Type 0 where
  pub valid : IsSheet sheet
  pub accepted : sheet_error sheet ≡ None
  pub count : plates sheet ≡ length source.inputs
  pub made : AllTell (length source.inputs) trays
      → MakesSheet (stored_by trays source) source.names (Ok sheet)

-- The same of trays whose plates may be read twice.
pub record TakesTwice (source : Sources) (before after : List TrayState) : Type 0 where
  pub keeps : (k : ℕ) → KeepsTray (tray_at before k) (tray_at after k)
  pub asked : (k : ℕ)
      → AsksPrefix (tray_at before k).asked (tray_at after k).asked (files_twice source k)
  pub in_hand : (k : ℕ) → InHand source k (tray_at before k) (tray_at after k)
  pub beyond : (k : ℕ) → length source.inputs ≤ k → tray_at after k ≡ tray_at before k

-- The second reading of the plates stops at this one: each tray was asked for its plate once or
-- twice, that one twice, and no fault of another tray was passed over.
pub record StopsAgain (source : Sources) (plate : ℕ) (before after : List TrayState) : Type 0 where
  pub known : plate < length source.inputs
  pub begun : AsksTwice source before after plate
  pub others : (k : ℕ) → k < length source.inputs
      → AsksAll source before after k ⊎ AsksTwice source before after k
  pub calm : (k : ℕ) → k ≢ plate → IsCalm before after k

-- The second read of that plate failed: of its bytes those that were taken again have no fault but
-- an early end.
pub record FailsAgain (source : Sources) (plate : ℕ) (before after : List TrayState) : Type 0 where
  pub stops : StopsAgain source plate before after
  pub rose : Rose (tray_at before plate).faults (tray_at after plate).faults
  pub taken : IsFaultless (name_at source.inputs plate) (tray_at before plate)
      (tray_at after plate)

-- That plate is not what it was. Its tray does not tell its file, which would be the same.
pub record HasChanged (source : Sources) (plate : ℕ) (before after : List TrayState) : Type 0 where
  pub stops : StopsAgain source plate before after
  pub untold : IsTrue (tray_at before plate).tells → ⊥
