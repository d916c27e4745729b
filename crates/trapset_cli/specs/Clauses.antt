-- What the top call promises, clause by clause, of the words and of what stands before and, primed,
-- after the call.
use Rattle.std.specs.Prelude.{◌≡◌, ◌≢◌, ◌⊎◌, ℕ, ◌≤◌, IsTrue, IsFalse, List, Some, None}
use Rattle.outside.specs.ErrorCases.{Rose, Asks, AsksPrefix}
use Rattle.outside.specs.Tray.{TrayState}
use Rattle.outside.specs.Rack.{RackState}
use Rattle.page_files.specs.Files.{Written, put_all}
use Rattle.page_files.specs.Writing.{BreaksAt, FinishesAll}
use Rattle.trapset_cli.specs.declared.reason.TrapsetError.{TrapsetError}
use Rattle.trapset_cli.specs.declared.reason.TrapsetError.TheVariants.{NoCommand, BadLine, Differs}
use Rattle.trapset_cli.specs.ErrorCases.{error_line, error_status}
use Rattle.trapset_cli.specs.Commands.{read_names, written_names}
use Rattle.trapset_cli.specs.Endings.{Breaks, HasInHand, IsToWrite, IsUnwritten, Passes, names_to}
use Rattle.trapset_cli.specs.Verdicts.{IsVerdict, Refused, Out}
use Rattle.trapset_cli.specs.Words.{ApplyWords, Command, Apply, command_of}
use Rattle.common_errors.specs.Statuses.{done, usage, job_refused, page_refused, not_read}
use Rattle.common_errors.specs.Statuses.{not_written, out_of_memory, set_refused}
use Rattle.common_errors.specs.Telling.{TellsText, TellsAfterFault}

-- The words mean this command.
abbrev pub Mean : List (List ℕ) → Command → Type 0
Mean words command = command_of words ≡ Some command

-- Status 0 comes only where neither count rose. The rack's files are then the old ones with those
-- put in, in order, that the command is to write: where the tray tells, what the command's files
-- give. Each file was asked for in its order and each is finished, none is open, and nothing is
-- printed.
pub record Success (words : List (List ℕ)) (tray tray' : TrayState) (rack rack' : RackState)
    (status : ℕ) : Type 0 where
  pub calm : status ≡ done → (tray'.faults ≡ tray.faults) × (rack'.faults ≡ rack.faults)
  pub files : (command : Command) → Mean words command → status ≡ done → (written : List Written)
      × IsToWrite command tray written × (IsTrue rack.tells
      → rack'.file ≡ put_all written rack.file)
  pub silent : status ≡ done → IsTrue rack.tells → rack'.reported ≡ rack.reported
  pub finished : (command : Command) → Mean words command → status ≡ done
      → FinishesAll (written_names command) rack rack'
  pub shut : status ≡ done → IsFalse rack'.is_open
  pub begun : (command : Command) → Mean words command → status ≡ done
      → Asks tray.asked tray'.asked (read_names command)
  pub created : (command : Command) → Mean words command → status ≡ done
      → Asks rack.asked rack'.asked (written_names command)

-- Status 2 comes exactly where the words mean no command. The usage line is then printed, and no
-- name is handed out.
pub record Usage (words : List (List ℕ)) (tray tray' : TrayState) (rack rack' : RackState)
    (status : ℕ) : Type 0 where
  pub only : status ≡ usage → command_of words ≡ None
  pub always : command_of words ≡ None → status ≡ usage
  pub line : command_of words ≡ None → TellsText (error_line NoCommand) rack rack'
  pub no_begin : command_of words ≡ None → tray'.asked ≡ tray.asked
  pub no_create : command_of words ≡ None → rack'.asked ≡ rack.asked

-- What comes where the input is refused: the cause's status, the verdict, the names that were
-- handed to `begin`, none after that of the file that is refused, the line, and that no fault of
-- the tray was passed over.
pub record RefusesInput (command : Command) (tray tray' : TrayState) (rack rack' : RackState)
    (status : ℕ) (reason : TrapsetError) : Type 0 where
  pub status_is : status ≡ error_status reason
  pub verdict : IsTrue tray.tells → IsVerdict tray.file command (Refused reason)
  pub begun : Asks tray.asked tray'.asked (names_to command reason)
  pub count : Passes reason tray tray'
  pub line : TellsText (error_line reason) rack rack'

-- Status 3 and 4 come only where the verdict is a cause of that status; and where the verdict is a
-- cause, be it of these or of status 8, and the tray's count did not rise, its status comes, or
-- that of out of memory.
pub record RefusedInput (words : List (List ℕ)) (tray tray' : TrayState) (rack rack' : RackState)
    (status : ℕ) : Type 0 where
  pub only : (command : Command) → Mean words command → (status ≡ job_refused)
      ⊎ (status ≡ page_refused) → (reason : TrapsetError)
      × RefusesInput command tray tray' rack rack' status reason
  pub always : (command : Command) (reason : TrapsetError) → Mean words command → IsTrue tray.tells
      → IsVerdict tray.file command (Refused reason) → ¬ Rose tray.faults tray'.faults
      → (status ≡ error_status reason) ⊎ (status ≡ out_of_memory)

-- a bad line of the set, or a set for other plates
abbrev pub IsOfSet : TrapsetError → Type 0
IsOfSet reason = ((n : ℕ) × (reason ≡ BadLine n)) ⊎ (reason ≡ Differs)

-- Status 8 comes only of `apply`, and only where all plates are read and the set has that bad line,
-- or is for other plates.
abbrev pub SetFault : List (List ℕ) → TrayState → TrayState → RackState → RackState → ℕ → Type 0
SetFault words tray tray' rack rack' status = status ≡ set_refused → (apply : ApplyWords)
    × Mean words (Apply apply) × ((reason : TrapsetError) × IsOfSet reason
    × RefusesInput (Apply apply) tray tray' rack rack' status reason)

-- Status 5 comes only where the tray's count rose. The names handed to `begin` end with the one
-- whose read failed, which the line names; what was read before it has no fault. At every status
-- the names are a prefix of those of the command, and no more was taken of the file in hand than is
-- owed; neither a failed write nor status 7 passes a fault over.
pub record ReadFault (words : List (List ℕ)) (tray tray' : TrayState) (rack rack' : RackState)
    (status : ℕ) : Type 0 where
  pub reason : status ≡ not_read → Rose tray.faults tray'.faults
  pub breaks : (command : Command) → Mean words command → status ≡ not_read → (reason : TrapsetError)
      × (status ≡ error_status reason) × Asks tray.asked tray'.asked (names_to command reason)
      × Breaks command reason tray tray' × TellsText (error_line reason) rack rack'
  pub asked : (command : Command) → Mean words command
      → AsksPrefix tray.asked tray'.asked (read_names command)
  pub in_hand : (command : Command) → Mean words command → HasInHand command tray tray'
  pub calm : (status ≡ not_written) ⊎ (status ≡ out_of_memory) → tray'.faults ≡ tray.faults

-- Status 6 comes only where the rack's count rose. Each file that the command reads was then asked
-- for in its order. The files that the command is to write are then whole up to the failed one,
-- which holds a prefix of its bytes or is as before, and the later ones are as before. The names
-- handed to `create` are a prefix of those of the command, and the line names the last of them; it
-- is whole unless a further call failed than the one of the write.
pub record WriteFault (words : List (List ℕ)) (tray tray' : TrayState) (rack rack' : RackState)
    (status : ℕ) : Type 0 where
  pub reason : status ≡ not_written → Rose rack.faults rack'.faults
  pub begun : (command : Command) → Mean words command → status ≡ not_written
      → Asks tray.asked tray'.asked (read_names command)
  pub breaks : (command : Command) → Mean words command → status ≡ not_written
      → (reason : TrapsetError)
      × ((written : List Written) × (place : ℕ) × IsToWrite command tray written
      × IsUnwritten command reason place × BreaksAt written place rack rack')
      × TellsAfterFault (error_line reason) rack rack'
  pub asked : (command : Command) → Mean words command
      → AsksPrefix rack.asked rack'.asked (written_names command)

-- For every status but 0 and 6 no file is created, and the rack's files are as before. Status 7 is
-- out of memory.
abbrev pub LeavesFiles : RackState → RackState → ℕ → Type 0
LeavesFiles rack rack' status = status ≢ done → status ≢ not_written → (rack'.asked ≡ rack.asked)
    × (rack'.is_open ≡ rack.is_open) × (IsTrue rack.tells → rack'.file ≡ rack.file)

-- Every status but 0 tells the line of a cause and nothing else; that of a failed write is the line
-- of `write_fault`.
abbrev pub FaultLine : RackState → RackState → ℕ → Type 0
FaultLine rack rack' status = status ≢ done → status ≢ not_written → (reason : TrapsetError)
    × (status ≡ error_status reason) × TellsText (error_line reason) rack rack'

-- Where the verdict is a list of files and no count rose, the status is 0 or 7. Every status is 0
-- or one of 2 to 8.
pub record Completeness (words : List (List ℕ)) (tray tray' : TrayState) (rack rack' : RackState)
    (status : ℕ) : Type 0 where
  pub valid : (command : Command) (written : List Written) → Mean words command → IsTrue tray.tells
      → IsVerdict tray.file command (Out written) → ¬ Rose tray.faults tray'.faults
      → ¬ Rose rack.faults rack'.faults → (status ≡ done) ⊎ (status ≡ out_of_memory)
  pub statuses : (status ≡ done) ⊎ ((usage ≤ status) × (status ≤ set_refused))
