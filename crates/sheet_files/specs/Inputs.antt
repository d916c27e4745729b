-- What a job and plates are made of, by the bytes of their files, and the sheet that they make.
use Rattle.std.specs.Prelude.{◌≡◌, ℕ, ◌<◌, List, length, Option, Some, None, Result, Ok, Err}
use Rattle.job_reader.specs.declared.job.Job.{Job}
use Rattle.job_reader.specs.Jobs.{job_of}
use Rattle.outside.specs.Tray.{TrayState}
use Rattle.page_files.specs.Assembly.{assembled, without_details}
use Rattle.page_files.specs.Inputs.{Sources, name_at, plate_at}
use Rattle.page_model.specs.declared.parts.PageParts.{PageParts}
use Rattle.pgm_plates.specs.declared.plate.Plate.{Plate}
use Rattle.pgm_plates.specs.declared.plate.PlateFault.{PlateFault}
use Rattle.common_errors.specs.declared.common.CommonError.TheVariants.{NoDetails}
use Rattle.sheet_geometry.specs.CommonErrors.{sheet_error}
use Rattle.sheet_geometry.specs.declared.sheet_errors.SheetError.{SheetError}
use Rattle.sheet_files.specs.SheetFiles.{IsSheetFault, IsSheetFile}
use Rattle.plate_rows.specs.Trays.{tray_at}
use Rattle.sheet_files.specs.declared.error.TrapsheetError.{TrapsheetError}
use Rattle.sheet_files.specs.declared.error.TrapsheetError.TheVariants.{Common, OfSheet}

-- the bytes of the job's file and of the file of each plate, where there is one
pub record StoredBytes : Type 0 where
  pub job : Option (List ℕ)
  pub plate : ℕ → Option (List ℕ)

-- what the trays tell of the plates' files, each of its own
abbrev pub plates_by : List TrayState → List (List ℕ) → ℕ → Option (List ℕ)
plates_by trays names k = (tray_at trays k).file (name_at names k)

-- what the trays tell of the files that they read
abbrev pub stored_by : List TrayState → Sources → StoredBytes
stored_by trays source = record {
  job = (tray_at trays 0).file source.job;
  plate = plates_by trays source.inputs;
}

-- There is such a file, and of its bytes this is so.
abbrev pub Spells : Option (List ℕ) → (List ℕ → Type 0) → Type 0
Spells stored Fact = (bytes : List ℕ) × (stored ≡ Some bytes) × Fact bytes

-- the files of the first `count` plates encode these
pub record AreSpelled (stored : ℕ → Option (List ℕ)) (count : ℕ)
    (plates : List Plate) : Type 0 where
  pub all : length plates ≡ count
  pub each : (k : ℕ) → k < count
      → Spells (stored k) (λ bytes. IsSheetFile bytes (plate_at plates k))

-- The job and `count` plates are read.
pub record SheetInputs (stored : StoredBytes) (count : ℕ) (job : Job)
    (plates : List Plate) : Type 0 where
  pub job_read : Spells stored.job (λ bytes. job_of bytes ≡ Ok job)
  pub plates_read : AreSpelled stored.plate count plates

-- Of `count` plates this one has that fault; the job and the plates before it are read.
pub record PlateFails (stored : StoredBytes) (count plate : ℕ) (fault : PlateFault) : Type 0 where
  pub job : Job
  pub plates : List Plate
  pub job_read : Spells stored.job (λ bytes. job_of bytes ≡ Ok job)
  pub before : AreSpelled stored.plate plate plates
  pub known : plate < count
  pub broken : Spells (stored.plate plate) (λ bytes. IsSheetFault bytes fault)

-- the sheet of these parts, or why it is refused
abbrev pub judged : Option SheetError → PageParts → Result PageParts TrapsheetError
judged None sheet = Ok sheet
judged (Some common_error) sheet = Err (OfSheet common_error)

-- the same, where no plate lacks its details
abbrev pub detailed : Option ℕ → PageParts → Result PageParts TrapsheetError
detailed None sheet = judged (sheet_error sheet) sheet
detailed (Some plate) sheet = Err (Common (NoDetails plate))

-- the sheet of a job and plates, or why there is none: a plate without details, and then the first
-- fault of the sheet
abbrev pub sheet_of : Job → List Plate → List (List ℕ) → Result PageParts TrapsheetError
sheet_of job plates names = detailed (without_details job names) (assembled job plates names)

-- what the job and the plates of these colorants make: a sheet, or its error
abbrev pub MakesSheet : StoredBytes → List (List ℕ) → Result PageParts TrapsheetError → Type 0
MakesSheet stored names made = (job : Job) × (plates : List Plate)
    × SheetInputs stored (length names) job plates × (sheet_of job plates names ≡ made)
