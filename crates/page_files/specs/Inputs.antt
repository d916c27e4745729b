-- What a page is read from, and what the bytes of its files give.
use Rattle.std.specs.Prelude.{◌≡◌, ℕ, ◌<◌, List, [], ◌∷◌, length, slice_index_or, Option, Some}
use Rattle.std.specs.Prelude.{Result, Ok}
use Rattle.job_reader.specs.declared.job.Job.{Job}
use Rattle.job_reader.specs.Jobs.{job_of}
use Rattle.page_model.specs.declared.parts.PageParts.{PageParts}
use Rattle.pgm_plates.specs.declared.plate.Plate.{Plate}
use Rattle.pgm_plates.specs.declared.plate.PlateFault.{PlateFault}
use Rattle.pgm_plates.specs.Faults.{IsFault}
use Rattle.pgm_plates.specs.Plates.{IsPlateFile}
use Rattle.ps_tokens.specs.declared.faults.JobFault.{JobFault}
use Rattle.common_errors.specs.declared.common.CommonError.{CommonError}
use Rattle.page_files.specs.Assembly.{assembly}

-- the job's file, and for each plate its colorant's name and its file
pub record Sources : Type 0 where
  pub job : List ℕ
  pub names : List (List ℕ)
  pub inputs : List (List ℕ)

-- the sources of these names
abbrev pub sources : List ℕ → List (List ℕ) → List (List ℕ) → Sources
sources job names inputs = record { job = job; names = names; inputs = inputs }

-- all files that are read, the job first
abbrev pub read_files : Sources → List (List ℕ)
read_files source = source.job ∷ source.inputs

-- what the bytes of a job give, and what those of a plate's file do
pub record Decoder : Type 1 where
  pub job : List ℕ → Result Job JobFault
  pub plate : List ℕ → Plate → Type 0
  pub fault : List ℕ → PlateFault → Type 0

-- a job of one page, and files of one image each
abbrev pub one_page : Decoder
one_page = record { job = job_of; plate = IsPlateFile; fault = IsFault }

-- name k, and no byte where there is none
abbrev pub name_at : List (List ℕ) → ℕ → List ℕ
name_at names k = slice_index_or names k []

-- stands where there is no plate
abbrev pub no_plate : Plate
no_plate = record { width = 0; height = 0; maxval = 0; samples = [] }

-- plate k
abbrev pub plate_at : List Plate → ℕ → Plate
plate_at plates k = slice_index_or plates k no_plate

-- The file's bytes are such.
abbrev pub Holds : (List ℕ → Option (List ℕ)) → List ℕ → (List ℕ → Type 0) → Type 0
Holds files name Fact = (bytes : List ℕ) × (files name ≡ Some bytes) × Fact bytes

-- The first `count` files of these names give these values.
pub record AreFound {V : Type 0} (Gives : List ℕ → V → Type 0) (none : V)
    (files : List ℕ → Option (List ℕ)) (names : List (List ℕ)) (count : ℕ)
    (values : List V) : Type 0 where
  pub all : length values ≡ count
  pub each : (k : ℕ) → k < count
      → Holds files (name_at names k) (λ bytes. Gives bytes (slice_index_or values k none))

-- The same of what they spell: plates.
abbrev pub AreRead : Decoder → (List ℕ → Option (List ℕ)) → List (List ℕ) → ℕ → List Plate
    → Type 0
AreRead decoder = AreFound decoder.plate no_plate

-- The job and all plates are read.
pub record Inputs (decoder : Decoder) (files : List ℕ → Option (List ℕ)) (source : Sources)
    (job : Job) (plates : List Plate) : Type 0 where
  pub job_read : Holds files source.job (λ bytes. decoder.job bytes ≡ Ok job)
  pub plates_read : AreRead decoder files source.inputs (length source.inputs) plates

-- The job is read, and the plates before this one; it has this fault.
pub record PlateFails (decoder : Decoder) (files : List ℕ → Option (List ℕ)) (source : Sources)
    (plate : ℕ) (fault : PlateFault) : Type 0 where
  pub job : Job
  pub plates : List Plate
  pub job_read : Holds files source.job (λ bytes. decoder.job bytes ≡ Ok job)
  pub before : AreRead decoder files source.inputs plate plates
  pub known : plate < length source.inputs
  pub broken : Holds files (name_at source.inputs plate) (λ bytes. decoder.fault bytes fault)

-- what the job and the plates make: a page, or its error
abbrev pub Makes : Decoder → (List ℕ → Option (List ℕ)) → Sources → Result PageParts CommonError
    → Type 0
Makes decoder files source made = (job : Job) × (plates : List Plate)
    × Inputs decoder files source job plates × (assembly job plates source.names ≡ made)
