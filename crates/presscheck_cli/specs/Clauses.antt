-- What the top call promises, clause by clause, of the words and of what stands before and, primed,
-- after the call.
use Rattle.std.specs.Prelude.{◌≡◌, ◌≢◌, ◌⊎◌, ℕ, ◌≤◌, IsTrue, List, [], ◌++◌, take, Option, Some}
use Rattle.std.specs.Prelude.{None, Ok, Err}
use Rattle.outside.specs.ErrorCases.{Rose, RoseOnce, Asks, AsksPrefix}
use Rattle.outside.specs.Tray.{TrayState}
use Rattle.outside.specs.Rack.{RackState}
use Rattle.page_model.specs.declared.parts.PageParts.{PageParts}
use Rattle.page_files.specs.Inputs.{Sources, Makes, one_page, read_files}
use Rattle.page_files.specs.Gathering.{BreaksReading, InHand, IsMade, files_to}
use Rattle.page_files.specs.Steps.{PassesNoFault}
use Rattle.presscheck_cli.specs.Text.{text_of, usage_line}
use Rattle.presscheck_cli.specs.Words.{CheckWords, check_of, sources_of}
use Rattle.common_errors.specs.declared.common.CommonError.{CommonError}
use Rattle.common_errors.specs.declared.common.CommonError.TheVariants as CommonErrors
use Rattle.common_errors.specs.CommonErrors.{line_of, status_of}
use Rattle.common_errors.specs.Statuses.{done, usage, job_refused, page_refused, not_read}
use Rattle.common_errors.specs.Statuses.{not_written, out_of_memory}
use Rattle.common_errors.specs.Telling.{TellsText}
use Rattle.page_files.specs.Verdicts.{IsVerdict, Refused, Targets}

-- The words mean this check.
abbrev pub Mean : List (List ℕ) → CheckWords → Type 0
Mean words check = check_of words ≡ Some check

-- a check writes no file
abbrev pub no_files : Targets
no_files = record { outputs = []; report = [] }

-- The verdict on the files is this error.
abbrev pub AreRefused : (List ℕ → Option (List ℕ)) → Sources → CommonError → Type 0
AreRefused files source error = IsVerdict one_page files source no_files (Refused error)

-- Status 0 comes only where neither count rose. A page was then read, which is the one of the job
-- and the plates where the tray tells them, and its text is printed and nothing else: the numbers
-- are the risk of its planes before trapping and after. Each file was asked for in its order.
pub record Success (words : List (List ℕ)) (tray tray' : TrayState) (rack rack' : RackState)
    (status : ℕ) : Type 0 where
  pub calm : status ≡ done → (tray'.faults ≡ tray.faults) × (rack'.faults ≡ rack.faults)
  pub reported : (check : CheckWords) → Mean words check → status ≡ done → (page : PageParts)
      × IsMade (sources_of check) tray page
      × (IsTrue rack.tells → rack'.reported ≡ rack.reported ++ text_of check.radius page)
  pub begun : (check : CheckWords) → Mean words check → status ≡ done
      → Asks tray.asked tray'.asked (read_files (sources_of check))

-- Status 2 comes exactly where the words mean no check. The usage line is then printed, and no name
-- is handed out.
pub record Usage (words : List (List ℕ)) (tray tray' : TrayState) (rack rack' : RackState)
    (status : ℕ) : Type 0 where
  pub only : status ≡ usage → check_of words ≡ None
  pub always : check_of words ≡ None → status ≡ usage
  pub line : check_of words ≡ None → TellsText usage_line rack rack'
  pub no_begin : check_of words ≡ None → tray'.asked ≡ tray.asked

-- What comes where the files are refused: the error's status, the verdict, the names that were
-- handed to `begin`, none after that of the file that is refused, the line, and that no fault of
-- the tray was passed over.
pub record RefusesFiles (check : CheckWords) (tray tray' : TrayState) (rack rack' : RackState)
    (status : ℕ) (error : CommonError) : Type 0 where
  pub status_is : status ≡ status_of error
  pub verdict : IsTrue tray.tells → AreRefused tray.file (sources_of check) error
  pub begun : Asks tray.asked tray'.asked (files_to (sources_of check) error)
  pub count : PassesNoFault {T = Unit {0}} tray tray' (Err error)
  pub line : TellsText (line_of error) rack rack'

-- Status 3 and 4 come only where the verdict is an error of that status; and where it is one, and
-- the tray's count did not rise, its status comes, or that of out of memory.
pub record RefusedInput (words : List (List ℕ)) (tray tray' : TrayState) (rack rack' : RackState)
    (status : ℕ) : Type 0 where
  pub only : (check : CheckWords) → Mean words check → (status ≡ job_refused)
      ⊎ (status ≡ page_refused) → (error : CommonError)
      × RefusesFiles check tray tray' rack rack' status error
  pub always : (check : CheckWords) (error : CommonError) → Mean words check → IsTrue tray.tells
      → AreRefused tray.file (sources_of check) error → ¬ Rose tray.faults tray'.faults
      → (status ≡ status_of error) ⊎ (status ≡ out_of_memory)

-- Status 5 comes only where the tray's count rose. The names handed to `begin` are a prefix of
-- those of the job and the plates, and the line names the last of them; what was read before it
-- has no
-- fault. At every status no more was taken of the file in hand than is owed, and status 7
-- passes no fault over.
pub record ReadFault (words : List (List ℕ)) (tray tray' : TrayState) (rack rack' : RackState)
    (status : ℕ) : Type 0 where
  pub reason : status ≡ not_read → Rose tray.faults tray'.faults
  pub breaks : (check : CheckWords) → Mean words check → status ≡ not_read → (file : Option ℕ)
      × Asks tray.asked tray'.asked (files_to (sources_of check) (CommonErrors.Read file))
      × BreaksReading (sources_of check) file tray tray'
      × TellsText (line_of (CommonErrors.Read file)) rack rack'
  pub asked : (check : CheckWords) → Mean words check
      → AsksPrefix tray.asked tray'.asked (read_files (sources_of check))
  pub in_hand : (check : CheckWords) → Mean words check → (tray' ≡ tray)
      ⊎ InHand (sources_of check) tray tray'
  pub calm : status ≡ out_of_memory → tray'.faults ≡ tray.faults

-- Status 6 comes only where the rack's count rose, by one: a page was read as for status 0, each
-- file having been asked for in
-- its order, and a prefix of its text is printed.
pub record TellFault (words : List (List ℕ)) (tray tray' : TrayState) (rack rack' : RackState)
    (status : ℕ) : Type 0 where
  pub reason : status ≡ not_written → RoseOnce rack.faults rack'.faults
  pub calm : status ≡ not_written → tray'.faults ≡ tray.faults
  pub begun : (check : CheckWords) → Mean words check → status ≡ not_written
      → Asks tray.asked tray'.asked (read_files (sources_of check))
  pub part : (check : CheckWords) → Mean words check → status ≡ not_written → (page : PageParts)
      × IsMade (sources_of check) tray page
      × (IsTrue rack.tells → (count : ℕ)
      × (rack'.reported ≡ rack.reported ++ take count (text_of check.radius page)))

-- Every other status is an error's, whose line is printed and nothing else. That of status 7 is
-- the one of out of memory.
abbrev pub FaultLine : RackState → RackState → ℕ → Type 0
FaultLine rack rack' status = status ≢ done → status ≢ not_written → status ≢ usage
    → (error : CommonError) × (status ≡ status_of error) × TellsText (line_of error) rack rack'

-- Where the job and the plates make a page and no count rose, the status is 0 or 7. Every status is
-- 0 or one of 2 to 7.
pub record Completeness (words : List (List ℕ)) (tray tray' : TrayState) (rack rack' : RackState)
    (status : ℕ) : Type 0 where
  pub page : (check : CheckWords) (page : PageParts) → Mean words check → IsTrue tray.tells
      → Makes one_page tray.file (sources_of check) (Ok page) → ¬ Rose tray.faults tray'.faults
      → ¬ Rose rack.faults rack'.faults → (status ≡ done) ⊎ (status ≡ out_of_memory)
  pub statuses : (status ≡ done) ⊎ ((usage ≤ status) × (status ≤ out_of_memory))
