-- What a pool answers to a list of jobs.
use Rattle.std.specs.Prelude.{◌≡◌, ◌↔◌, ℕ, ◌+◌, ◌-◌, ◌^◌, ◌<◌, ◌≤◌, IsTrue, List, [], ◌∷◌, ◌++◌}
use Rattle.std.specs.Prelude.{length, Option, Some, None, Result, Ok, Err}
use Rattle.outside.specs.Tray.{TrayState, KeepsTray}
use Rattle.page_files.specs.Gathering.{Gathers}
use Rattle.page_files.specs.Inputs.{Makes, Sources, one_page, sources}
use Rattle.page_model.specs.declared.parts.PageParts.{PageParts}
use Rattle.job_list.specs.Lines.{LineParts}
use Rattle.common_errors.specs.declared.common.CommonError.{CommonError}
use Rattle.common_errors.specs.declared.common.CommonError.TheVariants.{Read, Memory}
use Rattle.page_files.specs.Verdicts.{IsVerdict, Refused as refused_verdict, Targets}
use Rattle.trap_pool.specs.declared.outcome.Outcome.{Outcome}
use Rattle.trap_pool.specs.declared.outcome.Outcome.TheVariants.{Done, Refused, TooLarge}
use Rattle.trap_pool.specs.Replies.{ReplyParts, IsReply, accepted, accepted_of, all_samples}
use Rattle.trap_pool.specs.Replies.{gathered_of, most_in_all, read_faults}

-- the files that are read for a line
abbrev pub source_of : LineParts → Sources
source_of line = sources line.job line.names line.inputs

-- the files that are written for it
abbrev pub target_of : LineParts → Targets
target_of line = record { outputs = line.outs; report = line.report }

-- A page is accepted exactly where its samples, with the `used` samples of the pages before it, are
-- not too many.
abbrev pub KeepsLimit : ℕ → Option PageParts → Outcome → Type 0
KeepsLimit used None outcome = Unit {0}
KeepsLimit used (Some page) TooLarge = most_in_all < used + all_samples page
KeepsLimit used (Some page) (Done trapped) = used + all_samples page ≤ most_in_all
KeepsLimit used (Some page) (Refused common_error) = used + all_samples page ≤ most_in_all

-- Line k is gathered from the tray, and its reply says what came of it.
pub record AnswersLine (k used : ℕ) (line : LineParts) (before after : TrayState)
    (reply : ReplyParts) : Type 0 where
  pub number : reply.line ≡ k
  pub kind : IsReply reply.page reply.outcome
  pub gathers : Gathers (source_of line) before after (gathered_of reply.page reply.outcome)
  pub limit : KeepsLimit used reply.page reply.outcome

-- The lines from number k on are gathered one after another, each from the tray as the one before
-- left it.
abbrev pub InTurn : ℕ → ℕ → List LineParts → TrayState → TrayState → List ReplyParts → Type 0
InTurn k used [] before after [] = after ≡ before
InTurn k used [] before after (reply ∷ replies) = ⊥
InTurn k used (line ∷ lines) before after [] = ⊥
InTurn k used (line ∷ lines) before after (reply ∷ replies) = (between : TrayState)
    × AnswersLine k used line before between reply
    × InTurn (k + 1) (used + accepted_of reply.page reply.outcome) lines between after replies

-- no file is written
abbrev pub nowhere : Targets
nowhere = record { outputs = []; report = [] }

-- The verdict on the line's files is this error; of a failed read and of out of memory nothing
-- is said.
abbrev pub IsJudged : (List ℕ → Option (List ℕ)) → Sources → CommonError → Type 0
IsJudged files source (Read file) = Unit {0}
IsJudged files source Memory = Unit {0}
IsJudged files source common_error = IsVerdict one_page files source nowhere (refused_verdict common_error)

-- The reply to line k, where the accepted pages of the lines before it have `used` samples.
pub record IsReplyTo (tray : TrayState) (k used : ℕ) (line : LineParts)
    (reply : ReplyParts) : Type 0 where
  pub number : reply.line ≡ k
  pub kind : IsReply reply.page reply.outcome
  pub page : (page : PageParts) → reply.page ≡ Some page → IsTrue tray.tells
      → Makes one_page tray.file (source_of line) (Ok page)
  pub refused : (common_error : CommonError) → reply.outcome ≡ Refused common_error → IsTrue tray.tells
      → IsJudged tray.file (source_of line) common_error
  pub too_large : (page : PageParts) → reply.page ≡ Some page
      → (reply.outcome ≡ TooLarge) ↔ (most_in_all < used + all_samples page)

-- What the replies say of the lines: one to each, in their order.
pub record Pools (lines : List LineParts) (before after : TrayState)
    (replies : List ReplyParts) : Type 0 where
  pub keeps : KeepsTray before after
  pub count : length replies ≡ length lines
  pub each : (ls : List LineParts) (line : LineParts) (ls' : List LineParts) (rs : List ReplyParts)
      (reply : ReplyParts) (rs' : List ReplyParts) → lines ≡ ls ++ line ∷ ls'
      → replies ≡ rs ++ reply ∷ rs' → length ls ≡ length rs
      → IsReplyTo before (length ls) (accepted rs) line reply
  -- below the count's last value no more lines are refused with a failed read than the count rose
  -- by
  pub reads : after.faults < 2 ^ 64 - 1 → before.faults + read_faults replies ≤ after.faults
  pub in_turn : InTurn 0 0 lines before after replies

-- Without memory nothing was begun.
abbrev pub AnswersPool : {E : Type 0} → List LineParts → TrayState → TrayState
    → Result (List ReplyParts) E → Type 0
AnswersPool lines before after (Ok replies) = Pools lines before after replies
AnswersPool lines before after (Err error) = after ≡ before
