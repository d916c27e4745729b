-- How the list and the pages of its lines are read.
use Rattle.std.specs.Prelude.{◌≡◌, ◌⊎◌, ℕ, ◌+◌, ◌≤◌, IsTrue, List, [], ◌∷◌, length, Result, Ok, Err}
use Rattle.outside.specs.ErrorCases.{RoseOnce, Asks}
use Rattle.outside.specs.Reading.{TakesFew}
use Rattle.outside.specs.Tray.{TrayState, KeepsTray}
use Rattle.page_files.specs.Inputs.{Holds}
use Rattle.job_list.specs.Lines.{LineParts}
use Rattle.job_list.specs.Lists.{IsBadLine, IsList, longest_list, most_lines}
use Rattle.job_list.specs.declared.reading.ListError.{ListError}
use Rattle.job_list.specs.declared.reading.ListError.TheVariants as refused
use Rattle.trap_pool.specs.Pools.{Pools}
use Rattle.trap_pool.specs.Replies.{ReplyParts}
use Rattle.trappool_cli.specs.declared.lines.TrappoolError.{TrappoolError}
use Rattle.trappool_cli.specs.declared.lines.TrappoolError.TheVariants.{BadLine, NotRead, Memory}

-- each job writes a file for each one that it reads a plate from
abbrev pub AllPaired : List LineParts → Type 0
AllPaired [] = Unit {0}
AllPaired (line ∷ lines) = (length line.outs ≡ length line.inputs) × AllPaired lines

-- no more jobs than a list may have, and each is such
abbrev pub AreJobs : List LineParts → Type 0
AreJobs lines = (length lines ≤ most_lines) × AllPaired lines

-- What the answer says of the list's bytes, where they are known; only a failed read raises the
-- count, by one.
abbrev pub AnswersList : List ℕ → TrayState → TrayState → Result (List LineParts) TrappoolError
    → Type 0
AnswersList name before after (Ok lines) = (after.faults ≡ before.faults) × AreJobs lines
    × (IsTrue before.tells → Holds before.file name (λ bytes. IsList bytes lines))
AnswersList name before after (Err (BadLine k)) = (after.faults ≡ before.faults)
    × (IsTrue before.tells → Holds before.file name (λ bytes. IsBadLine bytes k))
AnswersList name before after (Err NotRead) = RoseOnce before.faults after.faults
AnswersList name before after (Err Memory) = after.faults ≡ before.faults

-- how many bytes are taken of a list at most: as many as it may have, and one
abbrev pub most_of_list : ℕ
most_of_list = longest_list + 1

-- No more is taken of the list's file, where it is begun, than is owed.
abbrev pub TakesList : List ℕ → TrayState → TrayState → Type 0
TakesList name before after =
    IsTrue after.begun → IsTrue before.tells → TakesFew name most_of_list before after

-- The list of that name is read.
pub record ReadsLines (name : List ℕ) (before after : TrayState)
    (result : Result (List LineParts) TrappoolError) : Type 0 where
  pub keeps : KeepsTray before after
  pub asked : Asks before.asked after.asked (name ∷ [])
  pub few : TakesList name before after
  pub answer : AnswersList name before after result

-- the list that was read, or its error as the program tells it
abbrev pub Judges : Result (List LineParts) ListError → Result (List LineParts) TrappoolError
    → Type 0
Judges (Ok lines) result = result ≡ Ok lines
Judges (Err (refused.BadLine k)) result = result ≡ Err (BadLine k)
Judges (Err refused.OutOfMemory) result = result ≡ Err Memory

-- The list is read, and then the pages of its lines; or the list is refused, or there is no room
-- for the replies, and nothing more is read.
abbrev pub MakesReplies : List ℕ → TrayState → TrayState
    → Result (List LineParts × List ReplyParts) TrappoolError → Type 0
MakesReplies name before after (Ok made) = (between : TrayState)
    × ReadsLines name before between (Ok made.0) × Pools made.0 between after made.1
MakesReplies name before after (Err fault) = ReadsLines name before after (Err fault)
    ⊎ ((fault ≡ Memory) × (lines : List LineParts) × ReadsLines name before after (Ok lines))
