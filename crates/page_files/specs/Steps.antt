-- The steps in which a page is read.
use Rattle.std.specs.Prelude.{◌≡◌, ℕ, ◌+◌, ◌*◌, ◌≤◌, Bool, true, false, IsTrue, List, [], ◌∷◌}
use Rattle.std.specs.Prelude.{Some, None, Result, Ok, Err}
use Rattle.outside.specs.ErrorCases.{Rose, Asks}
use Rattle.outside.specs.Reading.{TakesFew}
use Rattle.outside.specs.Tray.{TrayState, KeepsTray}
use Rattle.job_reader.specs.declared.job.Job.{Job}
use Rattle.job_reader.specs.Jobs.{job_of}
use Rattle.job_reader.specs.InRange.{IsJob}
use Rattle.page_model.specs.declared.parts.Plane.{Plane}
use Rattle.page_model.specs.Conditions.{IsPlane}
use Rattle.page_model.specs.Limits.{most_samples}
use Rattle.page_model.specs.Planes.{no_plane}
use Rattle.pgm_plates.specs.declared.plate.PlateFault.{PlateFault}
use Rattle.pgm_plates.specs.declared.plate.PlateFault.TheVariants.{SampleAboveMaxval}
use Rattle.pgm_plates.specs.Faults.{IsFault}
use Rattle.pgm_plates.specs.Planes.{plate_of}
use Rattle.pgm_plates.specs.Plates.{IsPlateFile}
use Rattle.pgm_plates.specs.Reading.{AreFew, IsTruncated}
use Rattle.ps_tokens.specs.declared.faults.JobError.{JobError as JobErrors}
use Rattle.ps_tokens.specs.declared.faults.JobError.TheVariants.{Fault, OutOfMemory}
use Rattle.common_errors.specs.declared.common.CommonError.{CommonError}
use Rattle.common_errors.specs.declared.common.CommonError.TheVariants.{Job as JobError, Plate, Read}
use Rattle.common_errors.specs.declared.common.CommonError.TheVariants.{Memory}
use Rattle.page_files.specs.Inputs.{Holds}
use Rattle.page_files.specs.Looks.{FileInHand, HasTaken, LooksThrough, Sought, Takes}
use Rattle.ps_tokens.specs.Limits.{longest_job}

-- how many bytes are taken of a job at most: as many as it may have, and one
abbrev pub most_of_job : ℕ
most_of_job = longest_job + 1

-- No more is taken of the job's file, where it is begun, than is owed.
abbrev pub TakesJob : List ℕ → TrayState → TrayState → Type 0
TakesJob name before after =
    IsTrue after.begun → IsTrue before.tells → TakesFew name most_of_job before after

-- Some bytes are taken off the beginning of the plate's file, no more than are owed.
abbrev pub TakesPlate : List ℕ → TrayState → TrayState → Type 0
TakesPlate = Takes AreFew

-- No fault of the tray is passed over: the count stays at each answer but a read fault, and but
-- a sample above the maxval, which may be among the bytes that came before a failed read.
abbrev pub PassesNoFault : {T : Type 0} → TrayState → TrayState → Result T CommonError → Type 0
PassesNoFault before after (Err (Read file)) = Unit {0}
PassesNoFault before after (Err (Plate plate (SampleAboveMaxval at))) = Unit {0}
PassesNoFault before after other = after.faults ≡ before.faults

-- what the answer says of the job's bytes; a job that is read is in range
abbrev pub AnswersJob : List ℕ → TrayState → TrayState → Result Job CommonError → Type 0
AnswersJob name before after (Ok job) =
    IsJob job × (IsTrue before.tells → Holds before.file name (λ bytes. job_of bytes ≡ Ok job))
AnswersJob name before after (Err (JobError fault)) =
    IsTrue before.tells → Holds before.file name (λ bytes. job_of bytes ≡ Err fault)
AnswersJob name before after (Err (Read None)) = Rose before.faults after.faults
AnswersJob name before after (Err Memory) = Unit {0}
AnswersJob name before after (Err other) = ⊥

-- The job of that name is read.
pub record ReadsJob (name : List ℕ) (before after : TrayState)
    (result : Result Job CommonError) : Type 0 where
  pub keeps : KeepsTray before after
  pub asked : Asks before.asked after.asked (name ∷ [])
  pub few : TakesJob name before after
  pub count : PassesNoFault before after result
  pub answer : AnswersJob name before after result

-- Bytes that have no fault, but for an early end.
abbrev pub HaveNoFault : List ℕ → Type 0
HaveNoFault bytes = (fault : PlateFault) → IsFault bytes fault → IsTruncated fault

-- Some bytes were taken off the beginning of the plate's file that is in hand: but for an early end
-- they have no fault.
abbrev pub IsFaultless : List ℕ → TrayState → TrayState → Type 0
IsFaultless = HasTaken HaveNoFault

-- whether a failed read may stand after that fault: it does after a sample above the maxval
abbrev pub may_hide : PlateFault → Bool
may_hide (SampleAboveMaxval at) = true
may_hide other = false

-- a plane in range, with no more samples than a page may have
abbrev pub IsPlaneOfPage : Plane → Type 0
IsPlaneOfPage plane = IsPlane plane × (plane.width * plane.height ≤ most_samples)

-- the plate of each file, as its plane, or its first fault
abbrev pub plates_sought : Sought Plane CommonError
plates_sought = record {
  gives = λ bytes plane. IsPlateFile bytes (plate_of plane);
  fine = IsPlaneOfPage;
  none = no_plane;
  Reason = PlateFault;
  because = λ fault bytes. IsFault bytes fault;
  may_hide = may_hide;
  sound = HaveNoFault;
  few = AreFew;
  refused = λ k fault. Plate k fault;
  unread = λ k. Read (Some k);
  memory = Memory;
}

-- Where a plate is in hand, no more is taken of it than is owed.
abbrev pub PlateInHand : List (List ℕ) → TrayState → TrayState → Type 0
PlateInHand = FileInHand AreFew

-- The plates of these files are read as planes, up to the first that is refused.
abbrev pub ReadsPlates : List (List ℕ) → TrayState → TrayState → Result (List Plane) CommonError
    → Type 0
ReadsPlates = LooksThrough plates_sought

-- a job that was read, or its error as the program tells it
abbrev pub Judges : Result Job JobErrors → Result Job CommonError → Type 0
Judges (Ok job) result = result ≡ Ok job
Judges (Err (Fault fault)) result = result ≡ Err (JobError fault)
Judges (Err OutOfMemory) result = result ≡ Err Memory
