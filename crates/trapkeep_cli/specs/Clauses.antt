-- What the top call promises, clause by clause, of the words and of what stands before and, primed,
-- after the call.
use Rattle.std.specs.Prelude.{◌≡◌, ◌≢◌, ◌⊎◌, ℕ, ◌≤◌, IsTrue, IsFalse, List, Option, Some, None, Ok}
use Rattle.std.specs.Prelude.{length}
use Rattle.keep_words.specs.Words.{KeepWords, keep_of}
use Rattle.keep_pages.specs.declared.uses.KeepUse.{KeepUse}
use Rattle.keep_pages.specs.KeptPages.{Locality as PixelLocality}
use Rattle.outside.specs.ErrorCases.{Rose, Asks, AsksPrefix}
use Rattle.outside.specs.Tray.{TrayState}
use Rattle.outside.specs.Rack.{RackState}
use Rattle.page_files.specs.Inputs.{Makes, one_page, read_files}
use Rattle.page_model.specs.declared.parts.At.{At}
use Rattle.page_model.specs.declared.parts.PageParts.{PageParts}
use Rattle.page_files.specs.Files.{Written, put_all}
use Rattle.page_files.specs.Writing.{Breaks, FinishesAll}
use Rattle.common_errors.specs.declared.common.CommonError.TheVariants.{Write}
use Rattle.common_errors.specs.Statuses.{done, usage, job_refused, page_refused, not_read}
use Rattle.common_errors.specs.Statuses.{not_written, out_of_memory}
use Rattle.common_errors.specs.Telling.{TellsText, TellsAfterFault}
use Rattle.trapkeep_cli.specs.declared.reason.TrapkeepError.{TrapkeepError}
use Rattle.trapkeep_cli.specs.declared.reason.TrapkeepError.TheVariants.{NoCommand, Page}
use Rattle.trapkeep_cli.specs.ErrorCases.{error_line, error_status}
use Rattle.trapkeep_cli.specs.Commands.{IsUsed, sources_of, written_names, written_plates}
use Rattle.trapkeep_cli.specs.Endings.{BreaksOff, HasInHand, IsToWrite, Passes, names_to}
use Rattle.trapkeep_cli.specs.Verdicts.{IsVerdict, Refused, Out}

-- The words mean this command.
abbrev pub Mean : List (List ℕ) → KeepWords → Type 0
Mean words keep = keep_of words ≡ Some keep

-- Status 0 comes only where neither count rose. The rack's files are then the old ones with those
-- put in, in order, that the command is to write: where the tray tells, what the command's files
-- give. Each file was asked for in its order and each is finished, none is open, and nothing is
-- printed.
pub record Success (words : List (List ℕ)) (tray tray' : TrayState) (rack rack' : RackState)
    (status : ℕ) : Type 0 where
  pub calm : status ≡ done → (tray'.faults ≡ tray.faults) × (rack'.faults ≡ rack.faults)
  pub files : (keep : KeepWords) → Mean words keep → status ≡ done → (written : List Written)
      × IsToWrite keep tray written × (IsTrue rack.tells
      → rack'.file ≡ put_all written rack.file)
  pub silent : status ≡ done → IsTrue rack.tells → rack'.reported ≡ rack.reported
  pub finished : (keep : KeepWords) → Mean words keep → status ≡ done
      → FinishesAll (written_names keep) rack rack'
  pub shut : status ≡ done → IsFalse rack'.is_open
  pub begun : (keep : KeepWords) → Mean words keep → status ≡ done
      → Asks tray.asked tray'.asked (read_files (sources_of keep))
  pub created : (keep : KeepWords) → Mean words keep → status ≡ done
      → Asks rack.asked rack'.asked (written_names keep)

-- Status 2 comes exactly where the words mean no command. The usage line is then printed, and no
-- name is handed out.
pub record Usage (words : List (List ℕ)) (tray tray' : TrayState) (rack rack' : RackState)
    (status : ℕ) : Type 0 where
  pub only : status ≡ usage → keep_of words ≡ None
  pub always : keep_of words ≡ None → status ≡ usage
  pub line : keep_of words ≡ None → TellsText (error_line NoCommand) rack rack'
  pub no_begin : keep_of words ≡ None → tray'.asked ≡ tray.asked
  pub no_create : keep_of words ≡ None → rack'.asked ≡ rack.asked

-- What comes where the input is refused: the cause's status, the verdict, the names that were
-- handed to `begin`, none after that of the file that is refused, the line, and that no fault of
-- the tray was passed over.
pub record RefusesInput (keep : KeepWords) (tray tray' : TrayState) (rack rack' : RackState)
    (status : ℕ) (reason : TrapkeepError) : Type 0 where
  pub status_is : status ≡ error_status reason
  pub verdict : IsTrue tray.tells → IsVerdict tray.file keep (Refused reason)
  pub begun : Asks tray.asked tray'.asked (names_to keep reason)
  pub count : Passes reason tray tray'
  pub line : TellsText (error_line reason) rack rack'

-- Status 3 and 4 come only where the verdict is a cause of that status; and where the verdict is a
-- cause, and the tray's count did not rise, its status comes, or that of out of memory.
pub record RefusedInput (words : List (List ℕ)) (tray tray' : TrayState) (rack rack' : RackState)
    (status : ℕ) : Type 0 where
  pub only : (keep : KeepWords) → Mean words keep → (status ≡ job_refused)
      ⊎ (status ≡ page_refused) → (reason : TrapkeepError)
      × RefusesInput keep tray tray' rack rack' status reason
  pub always : (keep : KeepWords) (reason : TrapkeepError) → Mean words keep → IsTrue tray.tells
      → IsVerdict tray.file keep (Refused reason) → ¬ Rose tray.faults tray'.faults
      → (status ≡ error_status reason) ⊎ (status ≡ out_of_memory)

-- Status 5 comes only where the tray's count rose. The names handed to `begin` end with the one
-- whose read failed, which the line names; what was read before it has no fault. At every status
-- the names are a prefix of those of the command, and no more was taken of the file in hand than is
-- owed; neither a failed write nor status 7 passes a fault over.
pub record ReadFault (words : List (List ℕ)) (tray tray' : TrayState) (rack rack' : RackState)
    (status : ℕ) : Type 0 where
  pub reason : status ≡ not_read → Rose tray.faults tray'.faults
  pub breaks : (keep : KeepWords) → Mean words keep → status ≡ not_read → (reason : TrapkeepError)
      × (status ≡ error_status reason) × Asks tray.asked tray'.asked (names_to keep reason)
      × BreaksOff keep reason tray tray' × TellsText (error_line reason) rack rack'
  pub asked : (keep : KeepWords) → Mean words keep
      → AsksPrefix tray.asked tray'.asked (read_files (sources_of keep))
  pub in_hand : (keep : KeepWords) → Mean words keep → HasInHand keep tray tray'
  pub calm : (status ≡ not_written) ⊎ (status ≡ out_of_memory) → tray'.faults ≡ tray.faults

-- Status 6 comes only where the rack's count rose. Each file that the command reads was then asked
-- for in its order. The files that the command is to write are then whole up to the failed one,
-- which holds a prefix of its bytes or is as before, and the later ones are as before. The names
-- handed to `create` are a prefix of those of the command, and the line names the last of them; it
-- is whole unless a further call failed than the one of the write.
pub record WriteFault (words : List (List ℕ)) (tray tray' : TrayState) (rack rack' : RackState)
    (status : ℕ) : Type 0 where
  pub reason : status ≡ not_written → Rose rack.faults rack'.faults
  pub begun : (keep : KeepWords) → Mean words keep → status ≡ not_written
      → Asks tray.asked tray'.asked (read_files (sources_of keep))
  pub breaks : (keep : KeepWords) → Mean words keep → status ≡ not_written → (file : Option ℕ)
      × ((written : List Written) × IsToWrite keep tray written
      × Breaks (length (written_plates keep)) written file rack rack')
      × TellsAfterFault (error_line (Page (Write file))) rack rack'
  pub asked : (keep : KeepWords) → Mean words keep
      → AsksPrefix rack.asked rack'.asked (written_names keep)

-- For every status but 0 and 6 no file is created, and the rack's files are as before. Status 7 is
-- out of memory.
abbrev pub LeavesFiles : RackState → RackState → ℕ → Type 0
LeavesFiles rack rack' status = status ≢ done → status ≢ not_written → (rack'.asked ≡ rack.asked)
    × (rack'.is_open ≡ rack.is_open) × (IsTrue rack.tells → rack'.file ≡ rack.file)

-- Every status but 0 tells the line of a cause and nothing else; that of a failed write is the line
-- of `write_fault`.
abbrev pub FaultLine : RackState → RackState → ℕ → Type 0
FaultLine rack rack' status = status ≢ done → status ≢ not_written → (reason : TrapkeepError)
    × (status ≡ error_status reason) × TellsText (error_line reason) rack rack'

-- Where the job and the plates make a page, no ink is gained on it, and a tint changes only at a
-- pixel that is covered, to that of a pixel within the width that is not covered: under black only
-- where the pixel is open, and under colour only on the plate of an underprint.
abbrev pub Locality : List (List ℕ) → TrayState → Type 0
Locality words tray = (keep : KeepWords) (made : PageParts) (used : KeepUse) → Mean words keep
    → IsTrue tray.tells → Makes one_page tray.file (sources_of keep) (Ok made) → IsUsed keep used
    → (c : ℕ) (p : At) → PixelLocality made used c p

-- Where the verdict is a list of files and no count rose, the status is 0 or 7. Every status is 0
-- or one of 2 to 7.
pub record Completeness (words : List (List ℕ)) (tray tray' : TrayState) (rack rack' : RackState)
    (status : ℕ) : Type 0 where
  pub valid : (keep : KeepWords) (written : List Written) → Mean words keep → IsTrue tray.tells
      → IsVerdict tray.file keep (Out written) → ¬ Rose tray.faults tray'.faults
      → ¬ Rose rack.faults rack'.faults → (status ≡ done) ⊎ (status ≡ out_of_memory)
  pub statuses : (status ≡ done) ⊎ ((usage ≤ status) × (status ≤ out_of_memory))
