-- What the top call promises, clause by clause, of the words and of what stands before and, primed,
-- after the call.
use Rattle.std.specs.Prelude.{◌≡◌, ◌≢◌, ◌⊎◌, ℕ, suc, ◌<◌, ◌≤◌, IsTrue, IsFalse, List, ◌∷◌, length}
use Rattle.std.specs.Prelude.{All, Option, Some, None}
use Rattle.outside.specs.ErrorCases.{Rose, Asks, AsksPrefix}
use Rattle.outside.specs.Tray.{TrayState}
use Rattle.outside.specs.Rack.{RackState, KeepsRack}
use Rattle.page_files.specs.Inputs.{name_at}
use Rattle.page_model.specs.declared.parts.PageParts.{PageParts}
use Rattle.page_model.specs.Conditions.{IsPage}
use Rattle.traprun_cli.specs.Endings.{BreaksRun, StopsAfter, ErrorKeepsCount, error_reads}
use Rattle.traprun_cli.specs.Text.{usage_line}
use Rattle.traprun_cli.specs.InHand.{InHand}
use Rattle.traprun_cli.specs.Words.{RunWords, order_of, sources_of, targets_of}
use Rattle.page_files.specs.Files.{Written, put_all}
use Rattle.page_files.specs.Writing.{Breaks, FinishesAll, WritesAll}
use Rattle.traprun_cli.specs.declared.error.TraprunError.{TraprunError}
use Rattle.traprun_cli.specs.declared.error.TraprunError.TheVariants.{AtPage}
use Rattle.traprun_cli.specs.Pages.{AreMade, run_files, run_names, run_reads, target_at}
use Rattle.traprun_cli.specs.RunVerdicts.{RunVerdict, AllEnd, HasPages, IsRunVerdict, Stopped}
use Rattle.traprun_cli.specs.RunVerdicts.{Out, status_of_verdict}
use Rattle.traprun_cli.specs.Errors.{line_of_error, status_of_error}
use Rattle.common_errors.specs.declared.common.CommonError.TheVariants.{Memory, Write}
use Rattle.common_errors.specs.CommonErrors.{line_of}
use Rattle.common_errors.specs.Statuses.{done, usage, job_refused, page_refused, not_read}
use Rattle.common_errors.specs.Statuses.{not_written, out_of_memory}
use Rattle.common_errors.specs.Telling.{TellsText, TellsAfterFault}
use Rattle.page_files.specs.Verdicts.{IsFile, outcome}

-- The words mean this run.
abbrev pub Mean : List (List ℕ) → RunWords → Type 0
Mean words order = order_of words ≡ Some order

-- These pages are whole, the last of them first: each is the one that its job and its plates'
-- images make, where the tray tells them; and the rack's files are the old ones with those of these
-- pages put in, page after page. No other file was created, and no more was taken of the file that
-- is in hand than is owed.
pub record Whole (order : RunWords) (tray tray' : TrayState) (rack rack' : RackState)
    (pages : List PageParts) : Type 0 where
  pub valid : All IsPage pages
  pub made : IsTrue tray.tells → AreMade tray.file (sources_of order) pages
  pub files : IsTrue rack.tells →
      rack'.file ≡ put_all (run_files (targets_of order) pages) rack.file
  pub created : Asks rack.asked rack'.asked (run_names (targets_of order) (length pages))
  -- each of them is finished
  pub finished : FinishesAll (run_names (targets_of order) (length pages)) rack rack'
  -- none is open, whether or not the rack tells
  pub shut : 0 < length pages → IsFalse rack'.is_open
  pub in_hand : InHand (sources_of order) (length pages) tray tray'

-- All pages of the job are whole, and no plate's file has another image after the last one. All
-- inputs were read for each page and looked at after the last one, each in its order; and nothing
-- is printed.
pub record EveryPage (order : RunWords) (tray tray' : TrayState) (rack rack' : RackState)
    : Type 0 where
  pub pages : List PageParts
  pub whole : Whole order tray tray' rack rack' pages
  pub all : IsTrue tray.tells → HasPages tray.file (sources_of order) (length pages)
  pub ended : IsTrue tray.tells →
      AllEnd tray.file (sources_of order) (length pages) (length (sources_of order).inputs)
  pub begun : Asks tray.asked tray'.asked (run_reads (sources_of order) (suc (length pages)))
  pub silent : IsTrue rack.tells → rack'.reported ≡ rack.reported

-- Status 0 comes only where neither count rose. All pages of the job are then whole, so that the
-- verdict is their files.
pub record Success (words : List (List ℕ)) (tray tray' : TrayState) (rack rack' : RackState)
    (status : ℕ) : Type 0 where
  pub calm : status ≡ done → (tray'.faults ≡ tray.faults) × (rack'.faults ≡ rack.faults)
  pub pages : (order : RunWords) → Mean words order → status ≡ done →
      EveryPage order tray tray' rack rack'
  pub verdict : (order : RunWords) → Mean words order → status ≡ done → IsTrue tray.tells →
      (files : List Written) × IsRunVerdict tray.file (sources_of order) (targets_of order)
      (Out files) ×
      (IsTrue rack.tells → rack'.file ≡ put_all files rack.file)

-- Status 2 comes exactly where the words mean no run. The usage line is then printed, no name is
-- handed out, and the files are as before.
pub record Usage (words : List (List ℕ)) (tray tray' : TrayState) (rack rack' : RackState)
    (status : ℕ) : Type 0 where
  pub only : status ≡ usage → order_of words ≡ None
  pub always : order_of words ≡ None → status ≡ usage
  pub line : order_of words ≡ None → TellsText usage_line rack rack'
  pub no_begin : order_of words ≡ None → tray'.asked ≡ tray.asked
  pub no_create : order_of words ≡ None → rack'.asked ≡ rack.asked
  pub files : order_of words ≡ None → IsTrue rack.tells → rack'.file ≡ rack.file

-- What comes where the run is refused: the stop's status and its line; the verdict; all pages
-- before it, which are whole; the names that were handed to `begin`, none after that of the file
-- that is refused, and to `create`; and that no fault of the tray was passed over.
pub record RefusesPages (order : RunWords) (tray tray' : TrayState) (rack rack' : RackState)
    (status : ℕ) (error : TraprunError) (pages : List PageParts) : Type 0 where
  pub status_is : status ≡ status_of_error error
  pub verdict : IsTrue tray.tells →
      IsRunVerdict tray.file (sources_of order) (targets_of order) (Stopped error)
  pub whole : Whole order tray tray' rack rack' pages
  pub place : StopsAfter (sources_of order) tray (length pages) error
  pub begun : Asks tray.asked tray'.asked (error_reads (sources_of order) (length pages) error)
  pub count : ErrorKeepsCount tray tray' error
  pub line : TellsText (line_of_error error) rack rack'

-- Status 3 and 4 come only where the verdict is a stop of that status; and where it is one, and
-- neither count rose, its status comes, or 7.
pub record RefusedInput (words : List (List ℕ)) (tray tray' : TrayState) (rack rack' : RackState)
    (status : ℕ) : Type 0 where
  pub only : (order : RunWords) → Mean words order →
      (status ≡ job_refused) ⊎ (status ≡ page_refused) →
      (error : TraprunError) × (pages : List PageParts) ×
      RefusesPages order tray tray' rack rack' status error pages
  pub always : (order : RunWords) (error : TraprunError) → Mean words order → IsTrue tray.tells →
      IsRunVerdict tray.file (sources_of order) (targets_of order) (Stopped error) →
      ¬ Rose tray.faults tray'.faults → ¬ Rose rack.faults rack'.faults →
      (status ≡ status_of_error error) ⊎ (status ≡ out_of_memory)

-- What comes where a read fails: the pages before are whole, what was read of this one has no
-- fault, and the line names the file that was handed to `begin` last.
pub record FailsToRead (order : RunWords) (tray tray' : TrayState) (rack rack' : RackState)
    (status : ℕ) : Type 0 where
  pub error : TraprunError
  pub pages : List PageParts
  pub status_is : status ≡ status_of_error error
  pub whole : Whole order tray tray' rack rack' pages
  pub begun : Asks tray.asked tray'.asked (error_reads (sources_of order) (length pages) error)
  pub breaks : BreaksRun (sources_of order) (length pages) tray tray' error
  pub line : TellsText (line_of_error error) rack rack'

-- Status 5 comes only where the tray's count rose. Neither a failed write nor out of memory passes
-- a fault of the tray over.
pub record ReadFault (words : List (List ℕ)) (tray tray' : TrayState) (rack rack' : RackState)
    (status : ℕ) : Type 0 where
  pub reason : status ≡ not_read → Rose tray.faults tray'.faults
  pub breaks : (order : RunWords) → Mean words order → status ≡ not_read →
      FailsToRead order tray tray' rack rack' status
  pub calm : (status ≡ not_written) ⊎ (status ≡ out_of_memory) → tray'.faults ≡ tray.faults

-- What comes where a write fails, at a page that was made: the pages before it are whole, as the
-- rack stood between them and this page; of its files those before the failed one are whole, it
-- holds a prefix of its bytes or is as before, and the later ones are as before. The names handed
-- to `create` are those of the pages before and a prefix of this one's, and the line names the last
-- of them.
pub record FailsToWrite (order : RunWords) (tray tray' : TrayState) (rack rack' : RackState)
    : Type 0 where
  pub pages : List PageParts
  pub page : PageParts
  pub file : Option ℕ
  pub between : RackState
  pub keeps : KeepsRack rack between
  pub wrote : WritesAll (run_files (targets_of order) pages) rack between
  pub created : Asks rack.asked between.asked (run_names (targets_of order) (length pages))
  pub finished : FinishesAll (run_names (targets_of order) (length pages)) rack between
  pub begun : Asks tray.asked tray'.asked (run_reads (sources_of order) (suc (length pages)))
  pub in_hand : InHand (sources_of order) (length pages) tray tray'
  pub valid : All IsPage (page ∷ pages)
  pub made : IsTrue tray.tells → AreMade tray.file (sources_of order) (page ∷ pages)
  pub breaks : Breaks (length (targets_of order).outputs)
      (outcome (target_at (targets_of order) (length pages)) page) file between rack'
  pub line : TellsAfterFault (line_of_error (AtPage (length pages) (Write file))) rack rack'

-- Status 6 comes only where the rack's count rose.
pub record WriteFault (words : List (List ℕ)) (tray tray' : TrayState) (rack rack' : RackState)
    (status : ℕ) : Type 0 where
  pub reason : status ≡ not_written → Rose rack.faults rack'.faults
  pub breaks : (order : RunWords) → Mean words order → status ≡ not_written →
      FailsToWrite order tray tray' rack rack'

-- Some pages are whole and nothing else is changed. At status 7 the names handed to `begin` are a
-- prefix of those of these pages and of one page more, or of the look at the plates after the last.
pub record KeepsPages (order : RunWords) (tray tray' : TrayState) (rack rack' : RackState)
    (status : ℕ) : Type 0 where
  pub pages : List PageParts
  pub whole : Whole order tray tray' rack rack' pages
  pub begun : status ≡ out_of_memory →
      AsksPrefix tray.asked tray'.asked (run_reads (sources_of order) (suc (length pages)))

-- At every status but 6, so at out of memory too, some pages are whole and nothing else is
-- changed.
abbrev pub LeavesPages : List (List ℕ) → TrayState → TrayState → RackState → RackState → ℕ → Type 0
LeavesPages words tray tray' rack rack' status =
    (order : RunWords) → Mean words order → status ≢ not_written →
    KeepsPages order tray tray' rack rack' status

-- Every stop tells its line and nothing else; that of a failed write is the line of `write_fault`,
-- and that of words that mean no run the one of `usage`. Status 7 tells `out of memory` alone, at
-- whichever place it comes.
pub record FaultLine (rack rack' : RackState) (status : ℕ) : Type 0 where
  pub stopped : status ≢ done → status ≢ usage → status ≢ not_written →
      (error : TraprunError) × (status ≡ status_of_error error)
      × TellsText (line_of_error error) rack rack'
  pub memory : status ≡ out_of_memory → TellsText (line_of Memory) rack rack'

-- Where the verdict is a list of files and no count rose, the status is 0 or 7. Where the job and
-- all plates are among the tray's files there is a verdict, and where no count rose the status is
-- the one that it asks for, or 7: valid input comes to 0 or 7, and any other to its first error.
-- Every status is 0 or one of 2 to 7.
pub record Completeness (words : List (List ℕ)) (tray tray' : TrayState) (rack rack' : RackState)
    (status : ℕ) : Type 0 where
  pub pages : (order : RunWords) (files : List Written) → Mean words order → IsTrue tray.tells →
      IsRunVerdict tray.file (sources_of order) (targets_of order) (Out files) →
      ¬ Rose tray.faults tray'.faults → ¬ Rose rack.faults rack'.faults →
      (status ≡ done) ⊎ (status ≡ out_of_memory)
  pub decided : (order : RunWords) → Mean words order → IsTrue tray.tells →
      IsFile tray.file (sources_of order).job →
      ((k : ℕ) → k < length (sources_of order).inputs →
      IsFile tray.file (name_at (sources_of order).inputs k)) →
      ¬ Rose tray.faults tray'.faults → ¬ Rose rack.faults rack'.faults →
      (verdict : RunVerdict) ×
      IsRunVerdict tray.file (sources_of order) (targets_of order) verdict ×
      ((status ≡ status_of_verdict verdict) ⊎ (status ≡ out_of_memory))
  pub statuses : (status ≡ done) ⊎ ((usage ≤ status) × (status ≤ out_of_memory))
