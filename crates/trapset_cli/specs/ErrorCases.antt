-- The line and the status of each cause for which a command ends without its work.
use Rattle.std.specs.Prelude.{◌≡◌, ℕ, List, ◌++◌, codes, decimal}
use Rattle.outside.specs.Rack.{RackState}
use Rattle.trapset_cli.specs.declared.reason.TrapsetError.{TrapsetError}
use Rattle.trapset_cli.specs.declared.reason.TrapsetError.TheVariants.{NoCommand, Page, SetUnread}
use Rattle.trapset_cli.specs.declared.reason.TrapsetError.TheVariants.{SetUnwritten, BadLine}
use Rattle.trapset_cli.specs.declared.reason.TrapsetError.TheVariants.{Differs}
use Rattle.common_errors.specs.CommonErrors.{line_of, status_of}
use Rattle.common_errors.specs.Lines.{line}
use Rattle.common_errors.specs.Statuses.{usage, not_read, not_written, set_refused}
use Rattle.common_errors.specs.Telling.{KeepsFiles, TellsText}

-- the line that is printed for a cause
abbrev pub error_line : TrapsetError → List ℕ
error_line NoCommand =
    line (codes "usage: trapset traps JOB SET NAME:IN ... | trapset apply SET IN:OUT ...")
error_line (Page error) = line_of error
error_line SetUnread = line (codes "read fault: set")
error_line SetUnwritten = line (codes "write fault: set")
error_line (BadLine n) = line (codes "set: BadLine " ++ decimal n)
error_line Differs = line (codes "set: Differs")

-- the status that the program then ends with
abbrev pub error_status : TrapsetError → ℕ
error_status NoCommand = usage
error_status (Page error) = status_of error
error_status SetUnread = not_read
error_status SetUnwritten = not_written
error_status (BadLine n) = set_refused
error_status Differs = set_refused

-- A cause tells its line and gives its status, and no file is touched.
pub record RefusesError (reason : TrapsetError) (before after : RackState)
    (status : ℕ) : Type 0 where
  pub files : KeepsFiles before after
  pub line : TellsText (error_line reason) before after
  pub status_is : status ≡ error_status reason
