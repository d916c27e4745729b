-- What becomes of each line of a list, beside the verdict on its files.
use Rattle.std.specs.Prelude.{◌≡◌, ◌⊎◌, ℕ, ◌+◌, ◌<◌, ◌≤◌, IsTrue, List, [], ◌∷◌, length, Option, Ok}
use Rattle.outside.specs.ErrorCases.{Rose, RoseOnce, AsksPrefix}
use Rattle.outside.specs.Rack.{RackState, KeepsRack}
use Rattle.outside.specs.Tray.{TrayState}
use Rattle.page_files.specs.Inputs.{Makes, one_page}
use Rattle.page_model.specs.declared.parts.PageParts.{PageParts}
use Rattle.page_files.specs.Writing.{Breaks, WritesAll}
use Rattle.job_list.specs.Lines.{LineParts}
use Rattle.trap_pool.specs.Pools.{source_of, target_of}
use Rattle.trap_pool.specs.Replies.{all_samples, most_in_all}
use Rattle.common_errors.specs.declared.common.CommonError.TheVariants as errors
use Rattle.common_errors.specs.Statuses.{not_written}
use Rattle.page_files.specs.Verdicts.{IsVerdict, Out, Refused as refused_verdict, outcome}
use Rattle.page_files.specs.Verdicts.{written_names}
use Rattle.trappool_cli.specs.Answers.{TellsPart, TellsWhole, status_with}
use Rattle.trappool_cli.specs.Text.{job_line}
use Rattle.trappool_cli.specs.declared.answering.LineStatus.{LineStatus}
use Rattle.trappool_cli.specs.declared.answering.LineStatus.TheVariants as said

-- The line's files make this page, so that their verdict is its outcome.
pub record MakesPage (tray : TrayState) (line : LineParts) (page : PageParts) : Type 0 where
  pub made : IsTrue tray.tells → Makes one_page tray.file (source_of line) (Ok page)
  pub verdict : IsTrue tray.tells
      → IsVerdict one_page tray.file (source_of line) (target_of line)
      (Out (outcome (target_of line) page))

-- And it is accepted: with the `used` samples of the accepted pages before it, its own are not too
-- many.
pub record AcceptsPage (tray : TrayState) (used taken : ℕ) (line : LineParts)
    (page : PageParts) : Type 0 where
  pub is_made : MakesPage tray line page
  pub workspace : used + all_samples page ≤ most_in_all
  pub samples : taken ≡ all_samples page

-- The cases of a line, by what is said of it: its files are those of the verdict; its page is too
-- large after the accepted ones before it; one write failed, and the files are written as far as
-- that; there was no memory; a read failed, and the tray's count rose; or its error is the
-- verdict. Where it is refused without a failed write, no file is touched.
abbrev pub IsCase : TrayState → TrayState → ℕ → ℕ → LineParts → RackState → RackState → LineStatus
    → Type 0
IsCase tray tray' used taken line before after said.Done = (page : PageParts)
    × AcceptsPage tray used taken line page × WritesAll (outcome (target_of line) page) before after
IsCase tray tray' used taken line before after said.TooLarge = (page : PageParts)
    × MakesPage tray line page × (most_in_all < used + all_samples page) × (taken ≡ 0)
    × (after ≡ before)
IsCase tray tray' used taken line before after (said.Refused (errors.Write file)) =
    (page : PageParts) × AcceptsPage tray used taken line page
    × Breaks (length line.outs) (outcome (target_of line) page) file before after
    × RoseOnce before.faults after.faults
IsCase tray tray' used taken line before after (said.Refused errors.Memory) =
    ((taken ≡ 0) ⊎ ((page : PageParts) × AcceptsPage tray used taken line page)) × (after ≡ before)
IsCase tray tray' used taken line before after (said.Refused (errors.Read file)) =
    Rose tray.faults tray'.faults × (taken ≡ 0) × (after ≡ before)
IsCase tray tray' used taken line before after (said.Refused errors.Usage) = ⊥
IsCase tray tray' used taken line before after (said.Refused error) =
    (IsTrue tray.tells
    → IsVerdict one_page tray.file (source_of line) (target_of line) (refused_verdict error))
    × (taken ≡ 0) × (after ≡ before)

-- A line is in one of the cases. No text is printed, and the names that are handed to `create` are
-- the first of its outputs and its report.
pub record LineEnds (tray tray' : TrayState) (used taken : ℕ) (line : LineParts)
    (before after : RackState) (what : LineStatus) : Type 0 where
  pub keeps : KeepsRack before after
  pub reported : IsTrue before.tells → after.reported ≡ before.reported
  pub asked : AsksPrefix before.asked after.asked (written_names (target_of line))
  pub ends : IsCase tray tray' used taken line before after what

-- The lines from number k on end one after another, and for each is printed what is said of it. The
-- first that cannot be printed is the last of which something is said; what comes later is not
-- touched.
abbrev pub LinesEnd : TrayState → TrayState → ℕ → ℕ → ℕ → List LineParts → List LineStatus
    → RackState
    → RackState → ℕ → Type 0
LinesEnd tray tray' k used so_far [] [] before after status = (after ≡ before) × (status ≡ so_far)
LinesEnd tray tray' k used so_far [] (what ∷ whats) before after status = ⊥
LinesEnd tray tray' k used so_far (line ∷ lines) [] before after status = ⊥
LinesEnd tray tray' k used so_far (line ∷ lines) (what ∷ whats) before after status = (taken : ℕ)
    × (between : RackState) × LineEnds tray tray' used taken line before between what
    × (((next : RackState) × TellsWhole (job_line k what) between next
    × LinesEnd tray tray' (k + 1) (used + taken)
    (status_with so_far what) lines whats next after status)
    ⊎ (TellsPart (job_line k what) between after × (whats ≡ []) × (status ≡ not_written)))

-- 1 where a failed read is reported
abbrev pub read_line : LineStatus → ℕ
read_line (said.Refused (errors.Read file)) = 1
read_line other = 0

-- how many lines tell one
abbrev pub read_lines : List LineStatus → ℕ
read_lines [] = 0
read_lines (what ∷ whats) = read_line what + read_lines whats

-- 1 where a failed write is reported
abbrev pub write_line : LineStatus → ℕ
write_line (said.Refused (errors.Write file)) = 1
write_line other = 0

-- how many lines tell one
abbrev pub write_lines : List LineStatus → ℕ
write_lines [] = 0
write_lines (what ∷ whats) = write_line what + write_lines whats

-- Of each group of names, one after another, a prefix is handed out.
abbrev pub AsksPrefixes : Option (List (List ℕ)) → Option (List (List ℕ)) → List (List (List ℕ))
    → Type 0
AsksPrefixes before after [] = after ≡ before
AsksPrefixes before after (names ∷ groups) = (between : Option (List (List ℕ)))
    × AsksPrefix before between names × AsksPrefixes between after groups
