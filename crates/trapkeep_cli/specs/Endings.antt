-- How the program ends.
use Rattle.std.specs.Prelude.{◌≡◌, ◌⊎◌, ℕ, ◌<◌, IsTrue, List, length, Option, Some, None, Result}
use Rattle.std.specs.Prelude.{Ok, Err}
use Rattle.keep_words.specs.Words.{KeepWords, keep_of}
use Rattle.keep_pages.specs.declared.uses.KeepUse.{KeepUse}
use Rattle.outside.specs.ErrorCases.{Rose, RoseOnce, Asks, AsksPrefix}
use Rattle.outside.specs.Tray.{TrayState}
use Rattle.outside.specs.Rack.{RackState, KeepsRack}
use Rattle.page_files.specs.Gathering.{BreaksReading, InHand, files_to}
use Rattle.page_files.specs.Inputs.{read_files}
use Rattle.page_files.specs.Steps.{PassesNoFault}
use Rattle.page_model.specs.declared.parts.PageParts.{PageParts}
use Rattle.page_model.specs.Conditions.{IsPage}
use Rattle.page_files.specs.Files.{Written}
use Rattle.page_files.specs.Writing.{Breaks, FinishesAll, WritesAll}
use Rattle.common_errors.specs.declared.common.CommonError.TheVariants.{Read, Write, Memory}
use Rattle.common_errors.specs.Statuses.{done, job_refused, page_refused, not_read}
use Rattle.trapkeep_cli.specs.declared.reason.TrapkeepError.{TrapkeepError}
use Rattle.trapkeep_cli.specs.declared.reason.TrapkeepError.TheVariants.{NoCommand, Page}
use Rattle.trapkeep_cli.specs.ErrorCases.{RefusesError, error_status}
use Rattle.trapkeep_cli.specs.Commands.{IsUsed, sources_of, written_names, written_plates}
use Rattle.trapkeep_cli.specs.Verdicts.{IsVerdict, Refused, Out, keep_files}

-- What a command may write, whatever its files: a page whose inks are drawn back.
abbrev pub MayWrite : KeepWords → List Written → Type 0
MayWrite words written = (page : PageParts) × (used : KeepUse) × IsPage page × IsUsed words used
    × (written ≡ keep_files words page used)

-- What a command is to write: where the tray tells, what its files give.
abbrev pub IsToWrite : KeepWords → TrayState → List Written → Type 0
IsToWrite words tray written = MayWrite words written
    × (IsTrue tray.tells → IsVerdict tray.file words (Out written))

-- the files that are begun where that cause comes: none comes after the one that is refused
abbrev pub names_to : KeepWords → TrapkeepError → List (List ℕ)
names_to words (Page error) = files_to (sources_of words) error
names_to words other = read_files (sources_of words)

-- What was read before the read that failed.
abbrev pub BreaksOff : KeepWords → TrapkeepError → TrayState → TrayState → Type 0
BreaksOff words (Page (Read file)) before after =
    BreaksReading (sources_of words) file before after
BreaksOff words other before after = ⊥

-- the job, a plate, the page or the width is refused
abbrev pub IsOfInput : TrapkeepError → Type 0
IsOfInput reason = (error_status reason ≡ job_refused) ⊎ (error_status reason ≡ page_refused)

-- No fault of the tray is passed over where the input is refused.
abbrev pub Passes : TrapkeepError → TrayState → TrayState → Type 0
Passes (Page error) before after = PassesNoFault {T = Unit {0}} before after (Err error)
Passes other before after = after.faults ≡ before.faults

-- No more was taken of the job or of the plate that is in hand than is owed.
abbrev pub HasInHand : KeepWords → TrayState → TrayState → Type 0
HasInHand words before after = (after ≡ before) ⊎ InHand (sources_of words) before after

-- Why there is nothing to write: the input is refused, a read failed, or there was no memory.
pub data NotRead (words : KeepWords) (before after : TrayState) (reason : TrapkeepError) : Type 0 where
  refused : IsOfInput reason → Passes reason before after
      → Asks before.asked after.asked (names_to words reason)
      → (IsTrue before.tells → IsVerdict before.file words (Refused reason))
      → NotRead words before after reason
  unread : error_status reason ≡ not_read → Rose before.faults after.faults
      → Asks before.asked after.asked (names_to words reason)
      → BreaksOff words reason before after → NotRead words before after reason
  no_memory : reason ≡ Page Memory → after.faults ≡ before.faults
      → NotRead words before after reason

-- All is read, and one of the files breaks: that plate, or without a number the report.
pub record NotWritten (words : KeepWords) (tray tray' : TrayState) (rack rack' : RackState)
    (reason : TrapkeepError) : Type 0 where
  pub calm : tray'.faults ≡ tray.faults
  pub begun : Asks tray.asked tray'.asked (read_files (sources_of words))
  pub written : List Written
  pub to_write : IsToWrite words tray written
  pub file : Option ℕ
  pub is : reason ≡ Page (Write file)
  pub breaks : Breaks (length (written_plates words)) written file rack rack'

-- All is read and written.
pub record IsDone (words : KeepWords) (tray tray' : TrayState) (rack rack' : RackState)
    : Type 0 where
  pub calm : tray'.faults ≡ tray.faults
  pub begun : Asks tray.asked tray'.asked (read_files (sources_of words))
  pub written : List Written
  pub to_write : IsToWrite words tray written
  pub some : 0 < length written
  pub wrote : WritesAll written rack rack'
  pub created : Asks rack.asked rack'.asked (written_names words)
  pub finished : FinishesAll (written_names words) rack rack'

-- What the answer says. A failed write is one failed call.
abbrev pub Answers : KeepWords → TrayState → TrayState → RackState → RackState
    → Result (Unit {0}) TrapkeepError → Type 0
Answers words tray tray' rack rack' (Ok nothing) = IsDone words tray tray' rack rack'
Answers words tray tray' rack rack' (Err reason) =
    (NotRead words tray tray' reason × (rack' ≡ rack))
    ⊎ (NotWritten words tray tray' rack rack' reason × RoseOnce rack.faults rack'.faults)

-- A command is carried out: all is read, and only then written. Nothing is printed.
pub record CarriesOut (words : KeepWords) (tray tray' : TrayState) (rack rack' : RackState)
    (result : Result (Unit {0}) TrapkeepError) : Type 0 where
  pub asked : AsksPrefix tray.asked tray'.asked (read_files (sources_of words))
  pub in_hand : HasInHand words tray tray'
  pub rack_keeps : KeepsRack rack rack'
  pub reported : IsTrue rack.tells → rack'.reported ≡ rack.reported
  pub created : AsksPrefix rack.asked rack'.asked (written_names words)
  pub answer : Answers words tray tray' rack rack' result

-- the status, and the line where there is a cause
abbrev pub Closes : Result (Unit {0}) TrapkeepError → RackState → RackState → ℕ → Type 0
Closes (Ok nothing) before after status = (after ≡ before) × (status ≡ done)
Closes (Err reason) before after status = RefusesError reason before after status

-- A command is carried out and closed.
pub record EndsCommand (words : KeepWords) (tray tray' : TrayState) (rack rack' : RackState)
    (status : ℕ) : Type 0 where
  pub result : Result (Unit {0}) TrapkeepError
  pub between : RackState
  pub carried : CarriesOut words tray tray' rack between result
  pub closed : Closes result between rack' status

-- The words are carried out, or they are no command.
pub data Ends (words : List (List ℕ)) (tray tray' : TrayState) (rack rack' : RackState)
    (status : ℕ) : Type 0 where
  no_command : keep_of words ≡ None → tray' ≡ tray → RefusesError NoCommand rack rack' status
      → Ends words tray tray' rack rack' status
  command : (keep : KeepWords) → keep_of words ≡ Some keep
      → EndsCommand keep tray tray' rack rack' status → Ends words tray tray' rack rack' status
