-- What it means to read the job of a run, and one page of it.
use Rattle.std.specs.Prelude.{◌≡◌, ◌⊎◌, ℕ, ◌+◌, IsTrue, List, [], length, take, Some, Result}
use Rattle.std.specs.Prelude.{Ok, Err, IfOk}
use Rattle.outside.specs.ErrorCases.{Rose, Asks, AsksPrefix}
use Rattle.outside.specs.Tray.{TrayState, KeepsTray}
use Rattle.page_files.specs.Inputs.{Sources, Holds, AreRead, Makes, name_at}
use Rattle.page_files.specs.Steps.{PassesNoFault, TakesJob}
use Rattle.job_reader.specs.declared.job.Job.{Job as JobRead}
use Rattle.page_model.specs.declared.parts.PageParts.{PageParts}
use Rattle.page_model.specs.Page.{plates}
use Rattle.pgm_plates.specs.declared.plate.Plate.{Plate as PlateRead}
use Rattle.ps_tokens.specs.declared.faults.JobError.{JobError as JobErrors}
use Rattle.ps_tokens.specs.declared.faults.JobError.TheVariants.{Fault, OutOfMemory}
use Rattle.traprun_cli.specs.Opened.{IsOpenJob, order_in}
use Rattle.traprun_cli.specs.InHand.{MayHold}
use Rattle.traprun_cli.specs.Reading.{IsUnbroken, ReadsRunJob}
use Rattle.traprun_cli.specs.Words.{sources_of}
use Rattle.traprun_cli.specs.declared.gather.OpenJob.{OpenJob}
use Rattle.traprun_cli.specs.declared.words.TraprunArgs.{TraprunArgs}
use Rattle.traprun_cli.specs.declared.error.TraprunError.{TraprunError}
use Rattle.traprun_cli.specs.declared.error.TraprunError.TheVariants.{Whole, AtPage, Ends}
use Rattle.traprun_cli.specs.Images.{page_decoder}
use Rattle.traprun_cli.specs.Pages.{pages_of, run_reads}
use Rattle.traprun_cli.specs.RunVerdicts.{PlateEnds}
use Rattle.common_errors.specs.declared.common.CommonError.{CommonError}
use Rattle.common_errors.specs.declared.common.CommonError.TheVariants.{Job, Plate, Read, Memory}
use Rattle.common_errors.specs.CommonErrors.{status_of}
use Rattle.common_errors.specs.Statuses.{job_refused, page_refused}
use Rattle.page_files.specs.Verdicts.{Targets, IsVerdict, Refused}

-- The job's file has these bytes, where the tray tells them.
abbrev pub IsJobOf : Sources → List ℕ → TrayState → Type 0
IsJobOf source bytes tray = IsTrue tray.tells → tray.file source.job ≡ Some bytes

-- the stop that the error of a page's job is; out of memory belongs to no page
abbrev pub job_error : ℕ → JobErrors → TraprunError
job_error page (Fault fault) = AtPage page (Job fault)
job_error page OutOfMemory = Whole Memory

-- the files that are begun at a page where that error comes: none stands after the one that is
-- refused
abbrev pub page_reads : Sources → CommonError → List (List ℕ)
page_reads source (Job fault) = []
page_reads source (Plate plate fault) = take (plate + 1) source.inputs
page_reads source (Read (Some plate)) = take (plate + 1) source.inputs
page_reads source other = source.inputs

-- The read of a plate failed at page k: the page's job and the plates before it are read, and of
-- its own bytes those that were taken have no fault but an early end.
pub record PageBreaks (source : Sources) (k plate : ℕ) (before after : TrayState) : Type 0 where
  pub job : JobRead
  pub plates : List PlateRead
  pub job_read : IsTrue before.tells
      → Holds before.file source.job (λ bytes. (page_decoder k).job bytes ≡ Ok job)
  pub before_it : IsTrue before.tells
      → AreRead (page_decoder k) before.file source.inputs plate plates
  pub in_hand : IsUnbroken k (name_at source.inputs plate) before after

-- Page k stops the run before a file of it is created.
pub data StopsPage (source : Sources) (k : ℕ) (before after : TrayState)
    (error : TraprunError) : Type 0 where
  refused : (common_error : CommonError) → error ≡ AtPage k common_error → (status_of common_error ≡ job_refused)
      ⊎ (status_of common_error ≡ page_refused) → PassesNoFault {T = Unit {0}} before after (Err common_error)
      → Asks before.asked after.asked (page_reads source common_error)
      → (IsTrue before.tells → (target : Targets)
      → IsVerdict (page_decoder k) before.file source target (Refused common_error))
      → StopsPage source k before after error
  ends : (plate : ℕ) → error ≡ Ends k plate → after.faults ≡ before.faults
      → Asks before.asked after.asked (take (plate + 1) source.inputs)
      → (IsTrue before.tells → PlateEnds before.file source k plate)
      → StopsPage source k before after error
  unread : (plate : ℕ) → error ≡ AtPage k (Read (Some plate)) → Rose before.faults after.faults
      → Asks before.asked after.asked (take (plate + 1) source.inputs)
      → PageBreaks source k plate before after → StopsPage source k before after error
  no_memory : error ≡ Whole Memory → after.faults ≡ before.faults
      → AsksPrefix before.asked after.asked source.inputs → StopsPage source k before after error

-- Page k is made of the job and of the k-th images.
pub record IsPageMade (source : Sources) (k : ℕ) (before after : TrayState)
    (page : PageParts) : Type 0 where
  pub count : plates page ≡ length source.inputs
  pub calm : after.faults ≡ before.faults
  pub asked : Asks before.asked after.asked source.inputs
  pub makes : IsTrue before.tells → Makes (page_decoder k) before.file source (Ok page)

abbrev pub AnswersGather : Sources → ℕ → TrayState → TrayState → Result PageParts TraprunError
    → Type 0
AnswersGather source k before after (Ok page) = IsPageMade source k before after page
AnswersGather source k before after (Err error) = StopsPage source k before after error

-- Page k is read, with a plane for each plate; where the job's file has these bytes, it is the page
-- that they and the plates' files make.
pub record GathersPage (source : Sources) (bytes : List ℕ) (k : ℕ) (before after : TrayState)
    (result : Result PageParts TraprunError) : Type 0 where
  pub keeps : KeepsTray before after
  pub in_hand : MayHold source.inputs k before after
  pub count : IfOk result (λ page. plates page ≡ length source.inputs)
  pub answer : IsJobOf source bytes before → AnswersGather source k before after result

-- The job of a run was read and has pages, seen from the tray as it was before.
pub record JobOpened (source : Sources) (bytes : List ℕ) (before after : TrayState) : Type 0 where
  pub count : ℕ
  pub has : pages_of bytes ≡ Ok count
  pub keeps : KeepsTray before after
  pub calm : after.faults ≡ before.faults
  pub asked : Asks before.asked after.asked (run_reads source 0)
  pub few : TakesJob source.job before after
  pub known : IsJobOf source bytes before

-- The run is in hand: its job is read and has pages, and its names are those of the words. Or it
-- stops.
pub data OpensJob (order : TraprunArgs) (before after : TrayState)
    (result : Result OpenJob TraprunError) : Type 0 where
  not_begun : result ≡ Err (Whole Memory) → after ≡ before → OpensJob order before after result
  opened : (run : OpenJob) → result ≡ Ok run → IsOpenJob run → run.order.now ≡ order
      → JobOpened (sources_of (order_in order)) run.job before after
      → OpensJob order before after result
  stopped : (error : TraprunError) → result ≡ Err error
      → ReadsRunJob order.job.now before after (Err error)
      → OpensJob order before after result
