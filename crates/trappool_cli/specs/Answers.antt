-- How the lines of a list are answered: files are written, and a line is printed.
use Rattle.std.specs.Prelude.{◌≡◌, ◌⊎◌, ℕ, ◌+◌, IsTrue, List, [], ◌∷◌, ◌++◌, length, take, Option}
use Rattle.std.specs.Prelude.{Some, None}
use Rattle.outside.specs.ErrorCases.{RoseOnce, AsksPrefix}
use Rattle.outside.specs.Rack.{RackState, KeepsRack}
use Rattle.page_model.specs.declared.parts.PageParts.{PageParts}
use Rattle.page_model.specs.Page.{plates}
use Rattle.page_files.specs.Writing.{Breaks, WritesAll}
use Rattle.job_list.specs.Lines.{LineParts}
use Rattle.trap_pool.specs.declared.outcome.Outcome.{Outcome}
use Rattle.trap_pool.specs.declared.outcome.Outcome.TheVariants as outcomes
use Rattle.trap_pool.specs.Pools.{target_of}
use Rattle.trap_pool.specs.Replies.{ReplyParts}
use Rattle.common_errors.specs.declared.common.CommonError.TheVariants as errors
use Rattle.common_errors.specs.Statuses.{lines_refused, not_written}
use Rattle.common_errors.specs.Telling.{KeepsFiles}
use Rattle.page_files.specs.Verdicts.{Targets, outcome, written_names}
use Rattle.trappool_cli.specs.declared.answering.LineStatus.{LineStatus}
use Rattle.trappool_cli.specs.declared.answering.LineStatus.TheVariants as said
use Rattle.trappool_cli.specs.Text.{job_line}

-- A page that is done is written, unless one call of the rack failed or there is no memory for its
-- report.
abbrev pub AnswersDone : Targets → PageParts → RackState → RackState → LineStatus → Type 0
AnswersDone target page before after said.Done = WritesAll (outcome target page) before after
AnswersDone target page before after (said.Refused (errors.Write file)) =
    Breaks (length target.outputs) (outcome target page) file before after
    × RoseOnce before.faults after.faults
AnswersDone target page before after (said.Refused errors.Memory) = after ≡ before
AnswersDone target page before after other = ⊥

-- What becomes of the files, and what is said: a page that is done is written, unless the rack has
-- a fault or there is no memory for its report; all else is said as it is, and no file is touched.
abbrev pub AnswersSaid : Targets → Option PageParts → Outcome → RackState → RackState → LineStatus
    → Type 0
AnswersSaid target (Some page) (outcomes.Done trapped) before after what =
    AnswersDone target page before after what
AnswersSaid target page (outcomes.Refused error) before after (said.Refused other) =
    (other ≡ error) × (after ≡ before)
AnswersSaid target page outcomes.TooLarge before after said.TooLarge = after ≡ before
AnswersSaid target page outcome before after other = ⊥

-- The files of a line are written, as far as they are; no text is printed.
pub record WritesReply (line : LineParts) (reply : ReplyParts) (before after : RackState)
    (said : LineStatus) : Type 0 where
  pub keeps : KeepsRack before after
  pub reported : IsTrue before.tells → after.reported ≡ before.reported
  pub asked : AsksPrefix before.asked after.asked (written_names (target_of line))
  pub answer : AnswersSaid (target_of line) reply.page reply.outcome before after said

-- The line writes a file for each plate of the reply's page.
abbrev pub HasOuts : LineParts → ReplyParts → Type 0
HasOuts line reply = (page : PageParts) → reply.page ≡ Some page → plates page ≡ length line.outs

-- Each line does, and has one reply.
abbrev pub AllHaveOuts : List LineParts → List ReplyParts → Type 0
AllHaveOuts [] [] = Unit {0}
AllHaveOuts (line ∷ lines) (reply ∷ replies) = HasOuts line reply × AllHaveOuts lines replies
AllHaveOuts [] (reply ∷ replies) = ⊥
AllHaveOuts (line ∷ lines) [] = ⊥

-- The files of a line whose page is done are written, as far as they are.
pub record WritesDone (line : LineParts) (page : PageParts) (before after : RackState)
    (said : LineStatus) : Type 0 where
  pub keeps : KeepsRack before after
  pub reported : IsTrue before.tells → after.reported ≡ before.reported
  pub asked : AsksPrefix before.asked after.asked (written_names (target_of line))
  pub answer : AnswersDone (target_of line) page before after said

-- The text is printed whole, and no file is touched.
pub record TellsWhole (text : List ℕ) (before after : RackState) : Type 0 where
  pub files : KeepsFiles before after
  pub calm : after.faults ≡ before.faults
  pub reported : IsTrue before.tells → after.reported ≡ before.reported ++ text

-- One call of the rack failed: a prefix of the text is printed.
pub record TellsPart (text : List ℕ) (before after : RackState) : Type 0 where
  pub files : KeepsFiles before after
  pub once : RoseOnce before.faults after.faults
  pub reported : IsTrue before.tells → (count : ℕ) × (after.reported ≡ before.reported ++ take count text)

-- Line k is answered, and printed if there is something said.
abbrev pub AnswersOne : ℕ → LineParts → ReplyParts → RackState → RackState → Option LineStatus
    → Type 0
AnswersOne k line reply before after (Some said) = (between : RackState)
    × WritesReply line reply before between said × TellsWhole (job_line k said) between after
AnswersOne k line reply before after None = (said : LineStatus) × (between : RackState)
    × WritesReply line reply before between said × TellsPart (job_line k said) between after

-- the status, after what is said of one line more
abbrev pub status_with : ℕ → LineStatus → ℕ
status_with status said.Done = status
status_with status (said.Refused error) = lines_refused
status_with status said.TooLarge = lines_refused

-- The lines from number k on are answered one after another; the first that cannot be printed is
-- the last.
abbrev pub AnswersAll : ℕ → ℕ → List LineParts → List ReplyParts → RackState → RackState → ℕ
    → Type 0
AnswersAll k so_far [] [] before after status = (after ≡ before) × (status ≡ so_far)
AnswersAll k so_far [] (reply ∷ replies) before after status = ⊥
AnswersAll k so_far (line ∷ lines) [] before after status = ⊥
AnswersAll k so_far (line ∷ lines) (reply ∷ replies) before after status =
    ((said : LineStatus) × (between : RackState)
    × AnswersOne k line reply before between (Some said)
    × AnswersAll (k + 1) (status_with so_far said) lines replies between after status)
    ⊎ (AnswersOne k line reply before after None × (status ≡ not_written))
