-- How a call of the program ends.
use Rattle.std.specs.Prelude.{◌≡◌, ℕ, List, Some, None, Ok, Err}
use Rattle.outside.specs.Tray.{TrayState}
use Rattle.outside.specs.Rack.{RackState}
use Rattle.job_list.specs.Lines.{LineParts}
use Rattle.trap_pool.specs.Replies.{ReplyParts}
use Rattle.common_errors.specs.CommonErrors.{line_of}
use Rattle.common_errors.specs.declared.common.CommonError.TheVariants as errors
use Rattle.common_errors.specs.Statuses.{job_refused, not_read, out_of_memory, usage}
use Rattle.common_errors.specs.Telling.{KeepsFiles, TellsText}
use Rattle.trappool_cli.specs.Answers.{AnswersAll}
use Rattle.trappool_cli.specs.Reading.{MakesReplies}
use Rattle.trappool_cli.specs.Text.{bad_line, unread_line, usage_line}
use Rattle.trappool_cli.specs.Words.{AskedWords, asked_of}
use Rattle.trappool_cli.specs.declared.lines.TrappoolError.{TrappoolError}
use Rattle.trappool_cli.specs.declared.lines.TrappoolError.TheVariants.{BadLine, NotRead, Memory}

-- A line is printed that says why nothing is written.
pub record Refuses (line : List ℕ) (its : ℕ) (before after : RackState) (status : ℕ) : Type 0 where
  pub files : KeepsFiles before after
  pub text : TellsText line before after
  pub status_is : status ≡ its

-- the line and the status of a list that is refused
abbrev pub fault_line : TrappoolError → List ℕ
fault_line (BadLine k) = bad_line k
fault_line NotRead = unread_line
fault_line Memory = line_of errors.Memory

abbrev pub fault_status : TrappoolError → ℕ
fault_status (BadLine k) = job_refused
fault_status NotRead = not_read
fault_status Memory = out_of_memory

-- The words mean nothing; or the list is refused; or its lines are answered.
pub data Ends (words : List (List ℕ)) (tray tray' : TrayState) (rack rack' : RackState)
    (status : ℕ) : Type 0 where
  no_words : asked_of words ≡ None → tray' ≡ tray → Refuses usage_line usage rack rack' status
      → Ends words tray tray' rack rack' status
  no_list : (asked : AskedWords) (fault : TrappoolError) → asked_of words ≡ Some asked
      → MakesReplies asked.list tray tray' (Err fault)
      → Refuses (fault_line fault) (fault_status fault) rack rack' status
      → Ends words tray tray' rack rack' status
  answered : (asked : AskedWords) (lines : List LineParts) (replies : List ReplyParts)
      → asked_of words ≡ Some asked → MakesReplies asked.list tray tray' (Ok (lines, replies))
      → AnswersAll 0 0 lines replies rack rack' status → Ends words tray tray' rack rack' status
