-- What it means to read a job and plates, and to make a page of them.
use Rattle.std.specs.Prelude.{◌≡◌, ◌⊎◌, ℕ, ◌<◌, ◌+◌, IsTrue, List, [], ◌∷◌, length, take, Option}
use Rattle.std.specs.Prelude.{Some, None, Result, Ok, Err}
use Rattle.outside.specs.ErrorCases.{Rose, Asks, AsksPrefix}
use Rattle.outside.specs.Tray.{TrayState, KeepsTray}
use Rattle.job_reader.specs.declared.job.Job.{Job}
use Rattle.job_reader.specs.Jobs.{job_of}
use Rattle.page_model.specs.declared.parts.PageParts.{PageParts}
use Rattle.page_model.specs.Conditions.{IsPage}
use Rattle.page_model.specs.Page.{plates}
use Rattle.pgm_plates.specs.declared.plate.Plate.{Plate as PlateRead}
use Rattle.common_errors.specs.declared.common.CommonError.{CommonError}
use Rattle.common_errors.specs.declared.common.CommonError.TheVariants.{Usage, Job as JobError}
use Rattle.common_errors.specs.declared.common.CommonError.TheVariants.{NoDetails, Plate, Page, Read}
use Rattle.common_errors.specs.declared.common.CommonError.TheVariants.{Write, Memory}
use Rattle.page_files.specs.Inputs.{Sources, Holds, AreRead, PlateFails, Makes, one_page}
use Rattle.page_files.specs.Inputs.{read_files, name_at}
use Rattle.page_files.specs.Looks.{IsLast}
use Rattle.page_files.specs.Steps.{IsFaultless, PassesNoFault, PlateInHand, ReadsJob, TakesJob}

-- The read of a plate failed: the job and the plates before it are read, and of its own bytes
-- those that were taken have no fault but an early end.
pub record PlateBreaks (source : Sources) (plate : ℕ) (before after : TrayState) : Type 0 where
  pub known : plate < length source.inputs
  pub job : Job
  pub plates : List PlateRead
  pub job_read : IsTrue before.tells → Holds before.file source.job (λ bytes. job_of bytes ≡ Ok job)
  pub before_it : IsTrue before.tells → AreRead one_page before.file source.inputs plate plates
  pub in_hand : IsFaultless (name_at source.inputs plate) before after

-- What was read before the read of a plate that failed.
abbrev pub BreaksReading : Sources → Option ℕ → TrayState → TrayState → Type 0
BreaksReading source None before after = Unit {0}
BreaksReading source (Some plate) before after = PlateBreaks source plate before after

-- the files that are begun where that error comes: none stands after the one that is refused
abbrev pub files_to : Sources → CommonError → List (List ℕ)
files_to source (JobError fault) = source.job ∷ []
files_to source (Read None) = source.job ∷ []
files_to source (Plate plate fault) = take (plate + 2) (read_files source)
files_to source (Read (Some plate)) = take (plate + 2) (read_files source)
files_to source other = read_files source

-- What the answer says of the files' bytes, where they are known, and of the names that were
-- handed out.
abbrev pub AnswersPage : Sources → TrayState → TrayState → Result PageParts CommonError → Type 0
AnswersPage source before after (Ok page) = (plates page ≡ length source.inputs)
    × Asks before.asked after.asked (read_files source)
    × (IsTrue before.tells → Makes one_page before.file source (Ok page))
AnswersPage source before after (Err (JobError fault)) = Asks before.asked after.asked
    (files_to source (JobError fault))
    × (IsTrue before.tells → Holds before.file source.job (λ bytes. job_of bytes ≡ Err fault))
AnswersPage source before after (Err (NoDetails plate)) = Asks before.asked after.asked
    (files_to source (NoDetails plate))
    × (IsTrue before.tells → Makes one_page before.file source (Err (NoDetails plate)))
AnswersPage source before after (Err (Plate plate fault)) = Asks before.asked after.asked
    (files_to source (Plate plate fault))
    × (IsTrue before.tells → PlateFails one_page before.file source plate fault)
AnswersPage source before after (Err (Page fault)) = Asks before.asked after.asked
    (files_to source (Page fault))
    × (IsTrue before.tells → Makes one_page before.file source (Err (Page fault)))
AnswersPage source before after (Err (Read None)) =
    Rose before.faults after.faults × Asks before.asked after.asked (files_to source (Read None))
AnswersPage source before after (Err (Read (Some plate))) = Rose before.faults after.faults
    × Asks before.asked after.asked (files_to source (Read (Some plate)))
    × PlateBreaks source plate before after
AnswersPage source before after (Err Memory) = Unit {0}
AnswersPage source before after (Err Usage) = ⊥
AnswersPage source before after (Err (Write file)) = ⊥

-- No more was taken of the file that was opened last than is owed, be it the job or a plate.
abbrev pub InHand : Sources → TrayState → TrayState → Type 0
InHand source before after = (TakesJob source.job before after × IsLast source.job after)
    ⊎ PlateInHand source.inputs before after

-- The job and the plates are read, and the page is made of them.
pub record Gathers (source : Sources) (before after : TrayState)
    (result : Result PageParts CommonError) : Type 0 where
  pub keeps : KeepsTray before after
  pub asked : AsksPrefix before.asked after.asked (read_files source)
  pub in_hand : InHand source before after
  pub count : PassesNoFault before after result
  pub answer : AnswersPage source before after result

-- The page is gathered; or there was no memory for the names of its files, and none was begun.
abbrev pub ReadsPage : Sources → TrayState → TrayState → Result PageParts CommonError → Type 0
ReadsPage source before after result =
    ((after ≡ before) × (result ≡ Err Memory)) ⊎ Gathers source before after result

-- A page, and the one that the job and the plates make, where the tray tells their bytes.
abbrev pub IsMade : Sources → TrayState → PageParts → Type 0
IsMade source tray page =
    IsPage page × (IsTrue tray.tells → Makes one_page tray.file source (Ok page))

-- After a job that was read, the rest of the page is read.
abbrev pub GathersRest : Sources → Job → TrayState → TrayState → Result PageParts CommonError → Type 0
GathersRest source job between after result = (before : TrayState)
    → ReadsJob source.job before between (Ok job) → Gathers source before after result
