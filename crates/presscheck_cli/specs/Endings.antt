-- How the steps of a check end.
use Rattle.std.specs.Prelude.{◌≡◌, ◌⊎◌, ℕ, IsTrue, List, ◌++◌, take, Some, None, Result, Ok, Err}
use Rattle.outside.specs.ErrorCases.{RoseOnce, Asks, AsksPrefix}
use Rattle.outside.specs.Tray.{TrayState}
use Rattle.outside.specs.Rack.{RackState}
use Rattle.page_model.specs.declared.parts.PageParts.{PageParts}
use Rattle.page_files.specs.Gathering.{AnswersPage, InHand, IsMade}
use Rattle.page_files.specs.Inputs.{Sources, read_files}
use Rattle.page_files.specs.Steps.{PassesNoFault}
use Rattle.presscheck_cli.specs.Text.{text_of, usage_line}
use Rattle.presscheck_cli.specs.Words.{CheckWords, check_of, sources_of}
use Rattle.common_errors.specs.declared.common.CommonError.{CommonError}
use Rattle.common_errors.specs.Statuses.{done, usage, not_written}
use Rattle.common_errors.specs.Telling.{KeepsFiles, Refuses, TellsText}

-- What the answer says: the text of the page that was read, or why there is none.
abbrev pub AnswersText : Sources → ℕ → TrayState → TrayState → Result (List ℕ) CommonError → Type 0
AnswersText source radius before after (Ok text) = (page : PageParts) × IsMade source before page
    × Asks before.asked after.asked (read_files source) × (text ≡ text_of radius page)
AnswersText source radius before after (Err error) = AnswersPage source before after (Err error)

-- A page is read, trapped, and counted before and after.
pub record ChecksPage (source : Sources) (radius : ℕ) (before after : TrayState)
    (result : Result (List ℕ) CommonError) : Type 0 where
  pub in_hand : (after ≡ before) ⊎ InHand source before after
  pub count : PassesNoFault before after result
  pub asked : AsksPrefix before.asked after.asked (read_files source)
  pub answer : AnswersText source radius before after result

-- The text is printed whole, or a prefix of it where one call of the rack failed.
pub data AnswersTell (text : List ℕ) (before after : RackState) (status : ℕ) : Type 0 where
  reported : status ≡ done → after.faults ≡ before.faults
      → (IsTrue before.tells → after.reported ≡ before.reported ++ text)
      → AnswersTell text before after status
  reported_in_part : status ≡ not_written → RoseOnce before.faults after.faults
      → (IsTrue before.tells → (count : ℕ) × (after.reported ≡ before.reported ++ take count text))
      → AnswersTell text before after status

-- A result is printed, and no file is touched.
pub record TellsResult (text : List ℕ) (before after : RackState) (status : ℕ) : Type 0 where
  pub files : KeepsFiles before after
  pub answer : AnswersTell text before after status

-- the text, or the line where there is an error
abbrev pub Closes : Result (List ℕ) CommonError → RackState → RackState → ℕ → Type 0
Closes (Ok text) before after status = TellsResult text before after status
Closes (Err error) before after status = Refuses error before after status

-- A check is made, and its result or its error is printed.
pub record EndsCheck (check : CheckWords) (tray tray' : TrayState) (rack rack' : RackState)
    (status : ℕ) : Type 0 where
  pub result : Result (List ℕ) CommonError
  pub checked : ChecksPage (sources_of check) check.radius tray tray' result
  pub closed : Closes result rack rack' status

-- The usage line is printed.
pub record RefusesWords (before after : RackState) (status : ℕ) : Type 0 where
  pub files : KeepsFiles before after
  pub line : TellsText usage_line before after
  pub status_is : status ≡ usage

-- The words are carried out, or they are no check.
pub data Ends (words : List (List ℕ)) (tray tray' : TrayState) (rack rack' : RackState)
    (status : ℕ) : Type 0 where
  no_check : check_of words ≡ None → tray' ≡ tray → RefusesWords rack rack' status
      → Ends words tray tray' rack rack' status
  check : (check : CheckWords) → check_of words ≡ Some check
      → EndsCheck check tray tray' rack rack' status → Ends words tray tray' rack rack' status
