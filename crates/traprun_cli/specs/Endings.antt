-- How a run ends.
use Rattle.std.specs.Prelude.{◌≡◌, ◌⊎◌, ℕ, ◌+◌, suc, IsTrue, List, ◌∷◌, ◌++◌, length, take, All}
use Rattle.std.specs.Prelude.{Option, Some, None, Result, Ok, Err}
use Rattle.outside.specs.ErrorCases.{Rose, RoseOnce, Asks, AsksPrefix}
use Rattle.outside.specs.Tray.{TrayState, KeepsTray}
use Rattle.outside.specs.Rack.{RackState, KeepsRack}
use Rattle.page_files.specs.Inputs.{Sources, name_at}
use Rattle.page_files.specs.Steps.{PassesNoFault, TakesJob}
use Rattle.page_model.specs.declared.parts.PageParts.{PageParts}
use Rattle.page_model.specs.Conditions.{IsPage}
use Rattle.page_files.specs.Writing.{WritesAll, Breaks, FinishesAll}
use Rattle.traprun_cli.specs.Gathering.{JobOpened, PageBreaks, page_reads}
use Rattle.traprun_cli.specs.InHand.{InHand}
use Rattle.traprun_cli.specs.Reading.{IsUnbroken}
use Rattle.traprun_cli.specs.Text.{usage_line}
use Rattle.traprun_cli.specs.Words.{RunWords, order_of, sources_of, targets_of}
use Rattle.traprun_cli.specs.declared.error.TraprunError.{TraprunError}
use Rattle.traprun_cli.specs.declared.error.TraprunError.TheVariants.{Whole, AtPage, Ends}
use Rattle.traprun_cli.specs.declared.error.TraprunError.TheVariants.{Extra}
use Rattle.traprun_cli.specs.Pages.{AreMade, run_files, run_names, run_reads, target_at}
use Rattle.traprun_cli.specs.RunVerdicts.{AllEnd, HasPages, IsRunVerdict, Stopped}
use Rattle.traprun_cli.specs.Errors.{RefusesRun, status_of_error}
use Rattle.common_errors.specs.declared.common.CommonError.TheVariants.{Plate, Read, Write, Memory}
use Rattle.common_errors.specs.Statuses.{done as is_done, usage, job_refused, page_refused}
use Rattle.common_errors.specs.Telling.{KeepsFiles, TellsText}
use Rattle.page_files.specs.Verdicts.{Targets, outcome, written_names}

-- These pages were read and written whole, one after another; the last of them stands first.
pub record Written (source : Sources) (target : Targets) (tray tray' : TrayState)
    (rack rack' : RackState) (pages : List PageParts) : Type 0 where
  pub valid : All IsPage pages
  pub made : IsTrue tray.tells → AreMade tray.file source pages
  pub calm : tray'.faults ≡ tray.faults
  pub asked : Asks tray.asked tray'.asked (run_reads source (length pages))
  pub created : Asks rack.asked rack'.asked (run_names target (length pages))
  pub finished : FinishesAll (run_names target (length pages)) rack rack'
  pub wrote : WritesAll (run_files target pages) rack rack'

-- the files that are begun where a run stops so after k pages: none after the one that is refused
abbrev pub error_reads : Sources → ℕ → TraprunError → List (List ℕ)
error_reads source k (AtPage page common_error) = run_reads source k ++ page_reads source common_error
error_reads source k (Ends page plate) = run_reads source k ++ take (plate + 1) source.inputs
error_reads source k (Extra plate) = run_reads source k ++ take (plate + 1) source.inputs
error_reads source k (Whole (Plate plate fault)) =
    run_reads source k ++ take (plate + 1) source.inputs
error_reads source k (Whole (Read (Some plate))) =
    run_reads source k ++ take (plate + 1) source.inputs
error_reads source k other = run_reads source k

-- No fault of the tray is passed over: the count stays, but where a sample above the maxval is
-- refused, which may be among the bytes that came before a failed read.
abbrev pub ErrorKeepsCount : TrayState → TrayState → TraprunError → Type 0
ErrorKeepsCount before after (AtPage page common_error) =
    PassesNoFault {T = Unit {0}} before after (Err common_error)
ErrorKeepsCount before after (Whole common_error) =
    PassesNoFault {T = Unit {0}} before after (Err common_error)
ErrorKeepsCount before after other = after.faults ≡ before.faults

-- The read of the file that a stop names failed. What was read before it is without fault: the job;
-- of a page its job and the plates before; after the last page the plates before, whose files end
-- there. Of the plate's own bytes those that were taken have no fault but an early end.
abbrev pub BreaksRun : Sources → ℕ → TrayState → TrayState → TraprunError → Type 0
BreaksRun source k before after (Whole (Read None)) = k ≡ 0
BreaksRun source k before after (AtPage page (Read (Some plate))) = (page ≡ k)
    × (IsTrue before.tells → (count : ℕ) × HasPages before.file source count)
    × PageBreaks source k plate before after
BreaksRun source k before after (Whole (Read (Some plate))) =
    (IsTrue before.tells → HasPages before.file source k × AllEnd before.file source k plate)
    × IsUnbroken k (name_at source.inputs plate) before after
BreaksRun source k before after other = ⊥

-- A stop stands after k pages: that of a page has the page's number, one of the whole job comes
-- before the first page, and one of a plate's last look after all pages of the job.
abbrev pub StopsAfter : Sources → TrayState → ℕ → TraprunError → Type 0
StopsAfter source before k (AtPage page common_error) = page ≡ k
StopsAfter source before k (Ends page plate) = page ≡ k
StopsAfter source before k (Extra plate) = IsTrue before.tells → HasPages before.file source k
StopsAfter source before k (Whole (Plate plate fault)) = IsTrue before.tells
    → HasPages before.file source k
StopsAfter source before k other = k ≡ 0

-- How a run ends, before a line is printed. The pages are those that were written whole before it,
-- the last of them first.
pub data AnswersRun (source : Sources) (target : Targets) (tray tray' : TrayState)
    (rack rack' : RackState) (result : Result (Unit {0}) TraprunError) : Type 0 where
  not_begun : result ≡ Err (Whole Memory) → tray' ≡ tray → rack' ≡ rack
      → AnswersRun source target tray tray' rack rack' result
  unread_job : result ≡ Err (Whole (Read None)) → rack' ≡ rack → Rose tray.faults tray'.faults
      → Asks tray.asked tray'.asked (run_reads source 0) → TakesJob source.job tray tray'
      → AnswersRun source target tray tray' rack rack' result
  no_job_memory : result ≡ Err (Whole Memory) → rack' ≡ rack → tray'.faults ≡ tray.faults
      → Asks tray.asked tray'.asked (run_reads source 0) → TakesJob source.job tray tray'
      → AnswersRun source target tray tray' rack rack' result
  done : (pages : List PageParts) (between : TrayState) → result ≡ Ok tt
      → Written source target tray between rack rack' pages → tray'.faults ≡ tray.faults
      → Asks tray.asked tray'.asked (run_reads source (suc (length pages)))
      → (IsTrue tray.tells → HasPages tray.file source (length pages)
      × AllEnd tray.file source (length pages) (length source.inputs))
      → InHand source (length pages) tray tray'
      → AnswersRun source target tray tray' rack rack' result
  refused : (pages : List PageParts) (between : TrayState) (error : TraprunError) → result ≡ Err error
      → (status_of_error error ≡ job_refused) ⊎ (status_of_error error ≡ page_refused)
      → Written source target tray between rack rack' pages
      → StopsAfter source tray (length pages) error → ErrorKeepsCount tray tray' error
      → Asks tray.asked tray'.asked (error_reads source (length pages) error)
      → (IsTrue tray.tells → IsRunVerdict tray.file source target (Stopped error))
      → InHand source (length pages) tray tray'
      → AnswersRun source target tray tray' rack rack' result
  unread : (pages : List PageParts) (between : TrayState) (error : TraprunError) → result ≡ Err error
      → status_of_error error ≡ 5 → Written source target tray between rack rack' pages
      → Rose tray.faults tray'.faults
      → Asks tray.asked tray'.asked (error_reads source (length pages) error)
      → BreaksRun source (length pages) tray tray' error → InHand source (length pages) tray tray'
      → AnswersRun source target tray tray' rack rack' result
  unwritten : (pages : List PageParts) (between : TrayState) (mid : RackState) (page : PageParts)
      (file : Option ℕ) → result ≡ Err (AtPage (length pages) (Write file))
      → Written source target tray between rack mid pages → KeepsRack rack mid → KeepsRack mid rack'
      → tray'.faults ≡ tray.faults
      → Asks tray.asked tray'.asked (run_reads source (suc (length pages))) → IsPage page
      → (IsTrue tray.tells → AreMade tray.file source (page ∷ pages))
      → Breaks (length target.outputs) (outcome
      (target_at target (length pages)) page) file mid rack'
      → AsksPrefix mid.asked rack'.asked (written_names (target_at target (length pages)))
      → RoseOnce rack.faults rack'.faults → InHand source (length pages) tray tray'
      → AnswersRun source target tray tray' rack rack' result
  no_memory : (pages : List PageParts) (between : TrayState) → result ≡ Err (Whole Memory)
      → Written source target tray between rack rack' pages → tray'.faults ≡ tray.faults
      → AsksPrefix tray.asked tray'.asked (run_reads source (suc (length pages)))
      → InHand source (length pages) tray tray'
      → AnswersRun source target tray tray' rack rack' result

-- A run is carried out.
pub record Runs (source : Sources) (target : Targets) (tray tray' : TrayState)
    (rack rack' : RackState) (result : Result (Unit {0}) TraprunError) : Type 0 where
  pub tray_keeps : KeepsTray tray tray'
  pub rack_keeps : KeepsRack rack rack'
  pub reported : IsTrue rack.tells → rack'.reported ≡ rack.reported
  pub answer : AnswersRun source target tray tray' rack rack' result

-- After a job that was read and has pages, the run is carried out: seen from the tray as it was
-- before.
abbrev pub RunsFrom : Sources → Targets → List ℕ → TrayState → TrayState → RackState → RackState
    → Result (Unit {0}) TraprunError → Type 0
RunsFrom source target bytes between tray' rack rack' result = (tray : TrayState)
    → JobOpened source bytes tray between → Runs source target tray tray' rack rack' result

-- So far these pages are trapped.
pub record PagesDone (source : Sources) (target : Targets) (tray tray' : TrayState)
    (rack rack' : RackState) (pages : List PageParts) : Type 0 where
  pub tray_keeps : KeepsTray tray tray'
  pub rack_keeps : KeepsRack rack rack'
  pub reported : IsTrue rack.tells → rack'.reported ≡ rack.reported
  pub in_hand : InHand source (length pages) tray tray'
  pub written : Written source target tray tray' rack rack' pages

-- All pages are trapped, or the run stops at one of them.
abbrev pub AnswersPages : Sources → Targets → ℕ → TrayState → TrayState → RackState → RackState
    → Result (Unit {0}) TraprunError → Type 0
AnswersPages source target count tray tray' rack rack' (Ok x) = (pages : List PageParts)
    × (length pages ≡ count) × PagesDone source target tray tray' rack rack' pages
AnswersPages source target count tray tray' rack rack' (Err error) =
    Runs source target tray tray' rack rack' (Err error)

abbrev pub TrapsPages : Sources → Targets → List ℕ → TrayState → TrayState → RackState → RackState
    → Result (Unit {0}) TraprunError → Type 0
TrapsPages source target bytes between tray' rack rack' result = (tray : TrayState)
    → (opened : JobOpened source bytes tray between)
    → AnswersPages source target opened.count tray tray' rack rack' result

-- the status, or the line of the stop
abbrev pub Closes : Result (Unit {0}) TraprunError → RackState → RackState → ℕ → Type 0
Closes (Ok x) before after status = (after ≡ before) × (status ≡ is_done)
Closes (Err error) before after status = RefusesRun error before after status

-- A run is carried out, and its stop is printed.
pub record EndsRun (order : RunWords) (tray tray' : TrayState) (rack rack' : RackState)
    (status : ℕ) : Type 0 where
  pub result : Result (Unit {0}) TraprunError
  pub between : RackState
  pub runs : Runs (sources_of order) (targets_of order) tray tray' rack between result
  pub closed : Closes result between rack' status

-- The usage line is printed.
pub record RefusesWords (before after : RackState) (status : ℕ) : Type 0 where
  pub files : KeepsFiles before after
  pub line : TellsText usage_line before after
  pub status_is : status ≡ usage

-- The words are carried out, or they mean no run.
pub data EndsWords (words : List (List ℕ)) (tray tray' : TrayState) (rack rack' : RackState)
    (status : ℕ) : Type 0 where
  no_run : order_of words ≡ None → tray' ≡ tray → RefusesWords rack rack' status
      → EndsWords words tray tray' rack rack' status
  run : (order : RunWords) → order_of words ≡ Some order
      → EndsRun order tray tray' rack rack' status → EndsWords words tray tray' rack rack' status
