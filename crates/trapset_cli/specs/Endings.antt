-- How the steps of a command end.
use Rattle.std.specs.Prelude.{◌≡◌, ◌⊎◌, ℕ, ◌+◌, ◌<◌, IsTrue, List, length, take, All, Some, None}
use Rattle.std.specs.Prelude.{Result, Ok, Err}
use Rattle.outside.specs.ErrorCases.{Rose, RoseOnce, Asks, AsksPrefix}
use Rattle.outside.specs.Tray.{TrayState}
use Rattle.outside.specs.Rack.{RackState, KeepsRack}
use Rattle.page_files.specs.Gathering.{BreaksReading, InHand, files_to}
use Rattle.page_files.specs.Inputs.{AreRead, name_at, one_page}
use Rattle.page_files.specs.Steps.{IsFaultless, PassesNoFault, PlateInHand}
use Rattle.page_model.specs.declared.parts.PageParts.{PageParts}
use Rattle.page_model.specs.declared.parts.Plane.{Plane}
use Rattle.page_model.specs.Conditions.{IsPage, IsPlane}
use Rattle.page_files.specs.Files.{Written, plate_files}
use Rattle.page_files.specs.Writing.{FinishesAll, WritesAll, BreaksAt}
use Rattle.pgm_plates.specs.declared.plate.Plate.{Plate as PlateRead}
use Rattle.trapset_cli.specs.declared.reason.TrapsetError.{TrapsetError}
use Rattle.trapset_cli.specs.declared.reason.TrapsetError.TheVariants.{NoCommand, Page, SetUnread}
use Rattle.trapset_cli.specs.declared.reason.TrapsetError.TheVariants.{SetUnwritten}
use Rattle.trapset_cli.specs.ErrorCases.{RefusesError, error_status}
use Rattle.trapset_cli.specs.Commands.{inputs_of, read_names, sources_of, written_names}
use Rattle.trapset_cli.specs.Verdicts.{ArePlanes, IsVerdict, Refused, Out, set_files}
use Rattle.trapset_cli.specs.Words.{ApplyWords, Command, Traps, Apply, command_of, outputs_of}
use Rattle.common_errors.specs.declared.common.CommonError.TheVariants.{Plate, Read, Write, Memory}
use Rattle.common_errors.specs.Statuses.{done, job_refused, page_refused, not_read, set_refused}
use Rattle.trap_set.specs.Applying.{BreaksOff, EndsWith}

-- What a command may write, whatever its files: of `traps` the set of a page, of `apply` planes in
-- range, as many as its plates.
abbrev pub MayWrite : Command → List Written → Type 0
MayWrite (Traps words) written = (page : PageParts) × IsPage page
    × (written ≡ set_files words.set page)
MayWrite (Apply words) written = (planes : List Plane) × All IsPlane planes
    × (length planes ≡ length words.plates)
    × (written ≡ plate_files (outputs_of words.plates) planes)

-- What a command is to write: where the tray tells, what its files give.
abbrev pub IsToWrite : Command → TrayState → List Written → Type 0
IsToWrite command tray written = MayWrite command written
    × (IsTrue tray.tells → IsVerdict tray.file command (Out written))

-- the files that are begun where that cause comes: none comes after the one that is refused
abbrev pub names_to : Command → TrapsetError → List (List ℕ)
names_to (Traps words) (Page error) = files_to (sources_of words) error
names_to (Apply words) (Page (Plate plate fault)) = take (plate + 1) (inputs_of words)
names_to (Apply words) (Page (Read (Some plate))) = take (plate + 1) (inputs_of words)
names_to command other = read_names command

-- The read of a plate of `apply` failed: the plates before it are read, and of its own bytes those
-- that were taken have no fault but an early end.
pub record PlateBreaks (words : ApplyWords) (plate : ℕ) (before after : TrayState) : Type 0 where
  pub known : plate < length (inputs_of words)
  pub plates : List PlateRead
  pub before_it : IsTrue before.tells → AreRead one_page before.file (inputs_of words) plate plates
  pub in_hand : IsFaultless (name_at (inputs_of words) plate) before after

-- The read of the set failed: all plates are read, and none of the lines that were taken is bad or
-- for other planes.
pub record SetBreaks (words : ApplyWords) (before after : TrayState) : Type 0 where
  pub planes : List Plane
  pub before_it : IsTrue before.tells → ArePlanes before.file (inputs_of words) planes
  pub in_hand : IsTrue after.begun → IsTrue before.tells → (bytes : List ℕ) × (new : List Plane)
      × (before.file words.set ≡ Some bytes) × BreaksOff bytes after planes new

-- What was read before the read that failed.
abbrev pub Breaks : Command → TrapsetError → TrayState → TrayState → Type 0
Breaks (Traps words) (Page (Read file)) before after =
    BreaksReading (sources_of words) file before after
Breaks (Apply words) (Page (Read (Some plate))) before after = PlateBreaks words plate before after
Breaks (Apply words) SetUnread before after = SetBreaks words before after
Breaks command other before after = ⊥

-- the input is refused: of `traps` the job, a plate or the page, of `apply` a plate or the set
abbrev pub IsOfInput : Command → TrapsetError → Type 0
IsOfInput (Traps words) reason = (error_status reason ≡ job_refused)
    ⊎ (error_status reason ≡ page_refused)
IsOfInput (Apply words) reason = (error_status reason ≡ page_refused)
    ⊎ (error_status reason ≡ set_refused)

-- No fault of the tray is passed over where the input is refused.
abbrev pub Passes : TrapsetError → TrayState → TrayState → Type 0
Passes (Page error) before after = PassesNoFault {T = Unit {0}} before after (Err error)
Passes other before after = after.faults ≡ before.faults

-- The set is in hand: all plates are read, and what is left is the end of the set's file.
pub record SetInHand (words : ApplyWords) (before after : TrayState) : Type 0 where
  pub asked : Asks before.asked after.asked (read_names (Apply words))
  pub planes : List Plane
  pub read : IsTrue before.tells → ArePlanes before.file (inputs_of words) planes
  pub taken : IsTrue after.begun → IsTrue before.tells
      → (bytes : List ℕ) × (before.file words.set ≡ Some bytes) × EndsWith bytes after.left

-- No more was taken of the job or of the plate that is in hand than is owed; or the set is in hand.
abbrev pub HasInHand : Command → TrayState → TrayState → Type 0
HasInHand (Traps words) before after = (after ≡ before) ⊎ InHand (sources_of words) before after
HasInHand (Apply words) before after = (after ≡ before) ⊎ PlateInHand (inputs_of words) before after
    ⊎ SetInHand words before after

-- Why there is nothing to write: the input is refused, a read failed, or there was no memory.
pub data NotRead (command : Command) (before after : TrayState)
    (reason : TrapsetError) : Type 0 where
  refused : IsOfInput command reason → Passes reason before after
      → Asks before.asked after.asked (names_to command reason)
      → (IsTrue before.tells → IsVerdict before.file command (Refused reason))
      → NotRead command before after reason
  unread : error_status reason ≡ not_read → Rose before.faults after.faults
      → Asks before.asked after.asked (names_to command reason) → Breaks command reason before after
      → NotRead command before after reason
  no_memory : reason ≡ Page Memory → after.faults ≡ before.faults
      → NotRead command before after reason

-- the file of that number was not written
abbrev pub IsUnwritten : Command → TrapsetError → ℕ → Type 0
IsUnwritten (Traps words) reason place = (reason ≡ SetUnwritten) × (place ≡ 0)
IsUnwritten (Apply words) reason place = reason ≡ Page (Write (Some place))

-- All is read, and one of the files breaks.
pub record NotWritten (command : Command) (tray tray' : TrayState) (rack rack' : RackState)
    (reason : TrapsetError) : Type 0 where
  pub calm : tray'.faults ≡ tray.faults
  pub begun : Asks tray.asked tray'.asked (read_names command)
  pub written : List Written
  pub to_write : IsToWrite command tray written
  pub place : ℕ
  pub is : IsUnwritten command reason place
  pub breaks : BreaksAt written place rack rack'

-- All is read and written.
pub record IsDone (command : Command) (tray tray' : TrayState)
    (rack rack' : RackState) : Type 0 where
  pub calm : tray'.faults ≡ tray.faults
  pub begun : Asks tray.asked tray'.asked (read_names command)
  pub written : List Written
  pub to_write : IsToWrite command tray written
  pub some : 0 < length written
  pub wrote : WritesAll written rack rack'
  pub created : Asks rack.asked rack'.asked (written_names command)
  pub finished : FinishesAll (written_names command) rack rack'

-- What the answer says. A failed write is one failed call.
abbrev pub Answers : Command → TrayState → TrayState → RackState → RackState
    → Result (Unit {0}) TrapsetError → Type 0
Answers command tray tray' rack rack' (Ok nothing) = IsDone command tray tray' rack rack'
Answers command tray tray' rack rack' (Err reason) =
    (NotRead command tray tray' reason × (rack' ≡ rack))
    ⊎ (NotWritten command tray tray' rack rack' reason × RoseOnce rack.faults rack'.faults)

-- A command is carried out: all is read, and only then written. Nothing is printed.
pub record CarriesOut (command : Command) (tray tray' : TrayState) (rack rack' : RackState)
    (result : Result (Unit {0}) TrapsetError) : Type 0 where
  pub asked : AsksPrefix tray.asked tray'.asked (read_names command)
  pub in_hand : HasInHand command tray tray'
  pub rack_keeps : KeepsRack rack rack'
  pub reported : IsTrue rack.tells → rack'.reported ≡ rack.reported
  pub created : AsksPrefix rack.asked rack'.asked (written_names command)
  pub answer : Answers command tray tray' rack rack' result

-- the status, and the line where there is a cause
abbrev pub Closes : Result (Unit {0}) TrapsetError → RackState → RackState → ℕ → Type 0
Closes (Ok nothing) before after status = (after ≡ before) × (status ≡ done)
Closes (Err reason) before after status = RefusesError reason before after status

-- A command is carried out and closed.
pub record EndsCommand (command : Command) (tray tray' : TrayState) (rack rack' : RackState)
    (status : ℕ) : Type 0 where
  pub result : Result (Unit {0}) TrapsetError
  pub between : RackState
  pub carried : CarriesOut command tray tray' rack between result
  pub closed : Closes result between rack' status

-- The words are carried out, or they are no command.
pub data Ends (words : List (List ℕ)) (tray tray' : TrayState) (rack rack' : RackState)
    (status : ℕ) : Type 0 where
  no_command : command_of words ≡ None → tray' ≡ tray → RefusesError NoCommand rack rack' status
      → Ends words tray tray' rack rack' status
  command : (command : Command) → command_of words ≡ Some command
      → EndsCommand command tray tray' rack rack' status → Ends words tray tray' rack rack' status
