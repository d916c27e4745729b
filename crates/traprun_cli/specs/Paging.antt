-- What it means to trap one page of a run, and to put it out.
use Rattle.std.specs.Prelude.{◌≡◌, ℕ, IsTrue, List, length, Option, Result, Ok, Err}
use Rattle.outside.specs.ErrorCases.{RoseOnce, Asks, AsksPrefix}
use Rattle.outside.specs.Tray.{TrayState, KeepsTray}
use Rattle.outside.specs.Rack.{RackState, KeepsRack}
use Rattle.page_files.specs.Inputs.{Sources}
use Rattle.page_model.specs.declared.parts.PageParts.{PageParts}
use Rattle.page_model.specs.Conditions.{IsPage}
use Rattle.page_files.specs.Writing.{WritesAll, Breaks, FinishesAll}
use Rattle.traprun_cli.specs.Gathering.{IsJobOf, IsPageMade, StopsPage}
use Rattle.traprun_cli.specs.InHand.{MayHold}
use Rattle.traprun_cli.specs.declared.error.TraprunError.{TraprunError}
use Rattle.traprun_cli.specs.declared.error.TraprunError.TheVariants.{Whole, AtPage}
use Rattle.traprun_cli.specs.Pages.{target_at}
use Rattle.common_errors.specs.declared.common.CommonError.TheVariants.{Write, Memory}
use Rattle.page_files.specs.Verdicts.{Targets, outcome, written_names}

-- what the answer says where page k is put out
pub data AnswersPutPage (target : Targets) (k : ℕ) (page : PageParts) (before after : RackState)
    (result : Result (Unit {0}) TraprunError) : Type 0 where
  written : result ≡ Ok tt → WritesAll (outcome (target_at target k) page) before after
      → Asks before.asked after.asked (written_names (target_at target k))
      → FinishesAll (written_names (target_at target k)) before after
      → AnswersPutPage target k page before after result
  unwritten : (file : Option ℕ) → result ≡ Err (AtPage k (Write file))
      → Breaks (length target.outputs) (outcome (target_at target k) page) file before after
      → AsksPrefix before.asked after.asked (written_names (target_at target k))
      → RoseOnce before.faults after.faults → AnswersPutPage target k page before after result
  no_memory : result ≡ Err (Whole Memory) → after ≡ before
      → AnswersPutPage target k page before after result

-- Page k is trapped, and its files are written, each under its name and the page's number.
pub record PutsPage (target : Targets) (k : ℕ) (page : PageParts) (before after : RackState)
    (result : Result (Unit {0}) TraprunError) : Type 0 where
  pub valid : IsPage page
  pub keeps : KeepsRack before after
  pub reported : IsTrue before.tells → after.reported ≡ before.reported
  pub answer : AnswersPutPage target k page before after result

-- what the answer says where page k is read and put out
pub data AnswersStep (source : Sources) (target : Targets) (k : ℕ) (tray tray' : TrayState)
    (rack rack' : RackState) (result : Result (Unit {0}) TraprunError) : Type 0 where
  written : (page : PageParts) → result ≡ Ok tt → IsPage page → IsPageMade source k tray tray' page
      → WritesAll (outcome (target_at target k) page) rack rack'
      → Asks rack.asked rack'.asked (written_names (target_at target k))
      → FinishesAll (written_names (target_at target k)) rack rack'
      → AnswersStep source target k tray tray' rack rack' result
  stopped : (error : TraprunError) → result ≡ Err error → rack' ≡ rack
      → StopsPage source k tray tray' error
      → AnswersStep source target k tray tray' rack rack' result
  unwritten : (page : PageParts) (file : Option ℕ) → result ≡ Err (AtPage k (Write file))
      → IsPage page → IsPageMade source k tray tray' page
      → Breaks (length target.outputs) (outcome (target_at target k) page) file rack rack'
      → AsksPrefix rack.asked rack'.asked (written_names (target_at target k))
      → RoseOnce rack.faults rack'.faults → AnswersStep source target k tray tray' rack rack' result

-- Page k is read, trapped and written, or the run stops there.
pub record Steps (source : Sources) (target : Targets) (k : ℕ) (tray tray' : TrayState)
    (rack rack' : RackState) (result : Result (Unit {0}) TraprunError) : Type 0 where
  pub rack_keeps : KeepsRack rack rack'
  pub reported : IsTrue rack.tells → rack'.reported ≡ rack.reported
  pub in_hand : MayHold source.inputs k tray tray'
  pub answer : AnswersStep source target k tray tray' rack rack' result

-- Where the job's file has these bytes, page k is read, trapped and written.
abbrev pub StepsPage : Sources → Targets → List ℕ → ℕ → TrayState → TrayState → RackState
    → RackState → Result (Unit {0}) TraprunError → Type 0
StepsPage source target bytes k tray tray' rack rack' result = KeepsTray tray tray'
    × (IsJobOf source bytes tray → Steps source target k tray tray' rack rack' result)
