-- What it means to read the job of a run, an image of each plate, and what stands after the last
-- one.
use Rattle.std.specs.Prelude.{◌≡◌, ℕ, Bool, false, IsTrue, List, [], ◌∷◌, Option, Some, None}
use Rattle.std.specs.Prelude.{Result, Ok, Err}
use Rattle.outside.specs.ErrorCases.{Rose, Asks}
use Rattle.outside.specs.Tray.{TrayState, KeepsTray}
use Rattle.page_files.specs.Inputs.{Holds}
use Rattle.page_files.specs.Looks.{HasTaken, LooksThrough, Sought}
use Rattle.page_files.specs.Steps.{HaveNoFault, IsPlaneOfPage, TakesJob, may_hide}
use Rattle.job_pages.specs.declared.run.RunError.TheVariants.{Fault as JobFails}
use Rattle.job_pages.specs.declared.run.RunError.TheVariants.{TooManyPages as HasTooMany}
use Rattle.page_model.specs.declared.parts.Plane.{Plane}
use Rattle.page_model.specs.Planes.{no_plane}
use Rattle.pgm_plates.specs.declared.plate.Plate.{Plate as PlateRead}
use Rattle.pgm_plates.specs.declared.plate.PlateFault.{PlateFault}
use Rattle.pgm_plates.specs.Planes.{plate_of}
use Rattle.pgm_plates.specs.Sequences.{AreFewOfPage, StandsAfter}
use Rattle.ps_tokens.specs.declared.faults.JobFault.{JobFault}
use Rattle.traprun_cli.specs.declared.error.TraprunError.{TraprunError}
use Rattle.traprun_cli.specs.declared.error.TraprunError.TheVariants.{Whole, TooManyPages}
use Rattle.traprun_cli.specs.declared.error.TraprunError.TheVariants.{AtPage}
use Rattle.traprun_cli.specs.declared.error.TraprunError.TheVariants.{Ends, Extra}
use Rattle.traprun_cli.specs.Images.{HasImage, HasImageFault, HasNoImage}
use Rattle.traprun_cli.specs.Pages.{pages_of}
use Rattle.common_errors.specs.declared.common.CommonError.TheVariants.{Job, Plate, Read, Memory}

-- The pages of a job of these bytes, or why there are none. A job that is read has its pages.
pub data JudgesRun (bytes : List ℕ) (result : Result (List ℕ) TraprunError) : Type 0 where
  read : (count : ℕ) → result ≡ Ok bytes → pages_of bytes ≡ Ok count → JudgesRun bytes result
  refused : (fault : JobFault) → result ≡ Err (Whole (Job fault))
      → pages_of bytes ≡ Err (JobFails fault) → JudgesRun bytes result
  too_many : (at : ℕ) → result ≡ Err (TooManyPages at) → pages_of bytes ≡ Err (HasTooMany at)
      → JudgesRun bytes result
  no_memory : result ≡ Err (Whole Memory) → JudgesRun bytes result

-- what the answer says of the job's file
pub data AnswersRunJob (name : List ℕ) (before after : TrayState)
    (result : Result (List ℕ) TraprunError) : Type 0 where
  read : (bytes : List ℕ) (count : ℕ) → result ≡ Ok bytes → pages_of bytes ≡ Ok count
      → after.faults ≡ before.faults → (IsTrue before.tells → before.file name ≡ Some bytes)
      → AnswersRunJob name before after result
  refused : (fault : JobFault) → result ≡ Err (Whole (Job fault)) → after.faults ≡ before.faults
      → (IsTrue before.tells
      → Holds before.file name (λ bytes. pages_of bytes ≡ Err (JobFails fault)))
      → AnswersRunJob name before after result
  too_many : (at : ℕ) → result ≡ Err (TooManyPages at) → after.faults ≡ before.faults
      → (IsTrue before.tells
      → Holds before.file name (λ bytes. pages_of bytes ≡ Err (HasTooMany at)))
      → AnswersRunJob name before after result
  unread : result ≡ Err (Whole (Read None)) → Rose before.faults after.faults
      → AnswersRunJob name before after result
  no_memory : result ≡ Err (Whole Memory) → after.faults ≡ before.faults
      → AnswersRunJob name before after result

-- The job of that name is read, and its pages are found. Whatever the answer, no more is taken of
-- its file than is owed.
pub record ReadsRunJob (name : List ℕ) (before after : TrayState)
    (result : Result (List ℕ) TraprunError) : Type 0 where
  pub keeps : KeepsTray before after
  pub asked : Asks before.asked after.asked (name ∷ [])
  pub few : TakesJob name before after
  pub answer : AnswersRunJob name before after result

-- At most `number` plate files, and bytes after them that have no fault but an early end.
abbrev pub AreUnbroken : ℕ → List ℕ → Type 0
AreUnbroken number bytes = (image : List ℕ) × StandsAfter bytes number image × HaveNoFault image

-- Some bytes were taken off the start of the plate's file that is in hand, and they are such.
abbrev pub IsUnbroken : ℕ → List ℕ → TrayState → TrayState → Type 0
IsUnbroken number = HasTaken (AreUnbroken number)

-- whether a failed read may stand after what a file is refused for: a fault, or none
abbrev pub hides : Option PlateFault → Bool
hides None = false
hides (Some fault) = may_hide fault

-- why a file has no image for a page: it ends before it, or there is a fault
abbrev pub LacksImage : ℕ → Option PlateFault → List ℕ → Type 0
LacksImage page None bytes = HasNoImage page bytes
LacksImage page (Some fault) bytes = HasImageFault page bytes fault

abbrev pub image_error : ℕ → ℕ → Option PlateFault → TraprunError
image_error page plate None = Ends page plate
image_error page plate (Some fault) = AtPage page (Plate plate fault)

-- the image of a page, of each plate's file: its plane
abbrev pub images_sought : ℕ → Sought Plane TraprunError
images_sought page = record {
  gives = λ bytes plane. HasImage page bytes (plate_of plane);
  fine = IsPlaneOfPage;
  none = no_plane;
  Reason = Option PlateFault;
  because = LacksImage page;
  may_hide = hides;
  sound = AreUnbroken page;
  few = AreFewOfPage page;
  refused = image_error page;
  unread = λ plate. AtPage page (Read (Some plate));
  memory = Whole Memory;
}

-- The images of a page are read, up to the first that is refused.
abbrev pub ReadsImages : ℕ → List (List ℕ) → TrayState → TrayState
    → Result (List Plane) TraprunError → Type 0
ReadsImages page = LooksThrough (images_sought page)

-- why a file does not end after `pages` pages: there is another image, or a fault
abbrev pub GoesOn : ℕ → Option PlateFault → List ℕ → Type 0
GoesOn pages None bytes = (another : PlateRead) × HasImage pages bytes another
GoesOn pages (Some fault) bytes = HasImageFault pages bytes fault

abbrev pub end_error : ℕ → Option PlateFault → TraprunError
end_error plate None = Extra plate
end_error plate (Some fault) = Whole (Plate plate fault)

-- the end of each plate's file after `pages` pages
abbrev pub ends_sought : ℕ → Sought (Unit {0}) TraprunError
ends_sought pages = record {
  gives = λ bytes nothing. HasNoImage pages bytes;
  fine = λ nothing. Unit {0};
  none = tt;
  Reason = Option PlateFault;
  because = GoesOn pages;
  may_hide = hides;
  sound = AreUnbroken pages;
  few = AreFewOfPage pages;
  refused = end_error;
  unread = λ plate. Whole (Read (Some plate));
  memory = Whole Memory;
}

-- Each file is looked at after the last page, up to the first that does not end there.
abbrev pub ExpectsEnd : ℕ → List (List ℕ) → TrayState → TrayState
    → Result (Unit {0}) TraprunError → Type 0
ExpectsEnd pages names before after (Ok nothing) =
    (ends : List (Unit {0})) × LooksThrough (ends_sought pages) names before after (Ok ends)
ExpectsEnd pages names before after (Err error) =
    LooksThrough (ends_sought pages) names before after (Err error)
