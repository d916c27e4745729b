-- The steps in which a sheet is read: the job, and each plate by its own tray.
use Rattle.std.specs.Prelude.{◌≡◌, ◌≢◌, ◌⊎◌, ℕ, ◌<◌, ◌≤◌, ◌+◌, ◌++◌, IsTrue, List, [], ◌∷◌, length}
use Rattle.std.specs.Prelude.{All, Some, Result, Ok, Err}
use Rattle.job_reader.specs.declared.job.Job.{Job}
use Rattle.outside.specs.ErrorCases.{Rose, Asks}
use Rattle.outside.specs.Tray.{TrayState, KeepsTray}
use Rattle.page_files.specs.Inputs.{name_at}
use Rattle.page_files.specs.Steps.{ReadsJob, TakesPlate}
use Rattle.pgm_plates.specs.declared.plate.Plate.{Plate as PlateRead}
use Rattle.pgm_plates.specs.declared.plate.PlateFault.{PlateFault}
use Rattle.pgm_plates.specs.declared.plate.PlateError.TheVariants.{Fault}
use Rattle.pgm_plates.specs.Reading.{IsTruncated, KeepsCount}
use Rattle.common_errors.specs.declared.common.CommonError.{CommonError}
use Rattle.common_errors.specs.declared.common.CommonError.TheVariants.{Plate, Read}
use Rattle.sheet_files.specs.Inputs.{AreSpelled, Spells, plates_by}
use Rattle.sheet_files.specs.SheetFiles.{IsSheetFault, IsSheetPlate}
use Rattle.plate_rows.specs.Trays.{IsCalm, tray_at}
use Rattle.sheet_files.specs.Trays.{AllTell}
use Rattle.sheet_files.specs.declared.error.TrapsheetError.{TrapsheetError}
use Rattle.sheet_files.specs.declared.error.TrapsheetError.TheVariants.{Common}

-- a step that is refused as one of a page is
abbrev pub common : {T : Type 0} → Result T CommonError → Result T TrapsheetError
common (Ok value) = Ok value
common (Err common_error) = Err (Common common_error)

-- The job of that name is read by the first tray; the others are as they were.
pub record ReadsFirst (name : List ℕ) (before after : List TrayState)
    (result : Result Job TrapsheetError) : Type 0 where
  pub read : Result Job CommonError
  pub same : result ≡ common read
  pub first : ReadsJob name (tray_at before 0) (tray_at after 0) read
  pub others : (k : ℕ) → k ≢ 0 → tray_at after k ≡ tray_at before k

-- Some bytes were taken off the beginning of the plate's file that is in hand: but for an early end
-- they have no fault.
abbrev pub IsFaultless : List ℕ → TrayState → TrayState → Type 0
IsFaultless name before after = IsTrue after.begun → IsTrue before.tells
    → (bytes : List ℕ) × (before.file name ≡ Some (bytes ++ after.left))
    × ((fault : PlateFault) → IsSheetFault bytes fault → IsTruncated fault)

-- The file of that name is asked for, and no more is taken of it than is owed.
pub record TakesFile (name : List ℕ) (before after : TrayState) : Type 0 where
  pub keeps : KeepsTray before after
  pub asked : Asks before.asked after.asked (name ∷ [])
  pub few : TakesPlate name before after

-- The tray is as it was, or the file of that name was asked for.
abbrev pub MayTakeFile : List ℕ → TrayState → TrayState → Type 0
MayTakeFile name before after = (after ≡ before) ⊎ TakesFile name before after

-- The first `count` files are asked for, each of its own tray, and those after them may have been.
-- The trays of no plate are as they were.
pub record TakesFiles (names : List (List ℕ)) (count : ℕ)
    (before after : List TrayState) : Type 0 where
  pub each : (k : ℕ) → k < count
      → TakesFile (name_at names k) (tray_at before k) (tray_at after k)
  pub later : (k : ℕ) → count ≤ k → k < length names
      → MayTakeFile (name_at names k) (tray_at before k) (tray_at after k)
  pub others : (k : ℕ) → length names ≤ k → tray_at after k ≡ tray_at before k

-- Plate k is asked for, and the plates before it are read.
pub record StopsAt (names : List (List ℕ)) (k : ℕ) (before after : List TrayState) : Type 0 where
  pub known : k < length names
  pub takes : TakesFiles names (k + 1) before after
  pub calm : (j : ℕ) → j < k → IsCalm before after j
  pub plates : List PlateRead
  pub before_it : AllTell k before → AreSpelled (plates_by before names) k plates

-- The plates of these files are read, each by its own tray, or one is the first that is refused.
pub data ReadsPlates (names : List (List ℕ)) (before after : List TrayState)
    (result : Result (List PlateRead) TrapsheetError) : Type 0 where
  read : (plates : List PlateRead) → result ≡ Ok plates → length plates ≡ length names
      → All IsSheetPlate plates → TakesFiles names (length names) before after
      → ((k : ℕ) → IsCalm before after k)
      → (AllTell (length names) before
      → AreSpelled (plates_by before names) (length names) plates)
      → ReadsPlates names before after result
  fails : (k : ℕ) (fault : PlateFault) → result ≡ Err (Common (Plate k fault))
      → StopsAt names k before after
      → KeepsCount {T = PlateRead} (tray_at before k) (tray_at after k) (Err (Fault fault))
      → (IsTrue (tray_at before k).tells
      → Spells (plates_by before names k) (λ bytes. IsSheetFault bytes fault))
      → ReadsPlates names before after result
  unread : (k : ℕ) → result ≡ Err (Common (Read (Some k))) → StopsAt names k before after
      → Rose (tray_at before k).faults (tray_at after k).faults
      → IsFaultless (name_at names k) (tray_at before k) (tray_at after k)
      → ReadsPlates names before after result
