-- The line and the status of each cause for which the program ends without its work.
use Rattle.std.specs.Prelude.{◌≡◌, ℕ, List, codes}
use Rattle.outside.specs.Rack.{RackState}
use Rattle.trapkeep_cli.specs.declared.reason.TrapkeepError.{TrapkeepError}
use Rattle.trapkeep_cli.specs.declared.reason.TrapkeepError.TheVariants.{NoCommand, Page, TooWide}
use Rattle.common_errors.specs.CommonErrors.{line_of, status_of}
use Rattle.common_errors.specs.Lines.{line}
use Rattle.common_errors.specs.Statuses.{usage, page_refused}
use Rattle.common_errors.specs.Telling.{KeepsFiles, TellsText}

-- the line that is printed for a cause
abbrev pub error_line : TrapkeepError → List ℕ
error_line NoCommand = line
    (codes "usage: trapkeep --rich-black W [--black-limit L] [--except NAME] ... JOB REPORT NAME:IN:OUT ... | trapkeep --underprint NAME=W ... JOB REPORT NAME:IN:OUT ...")
error_line (Page error) = line_of error
error_line TooWide = line (codes "keepaway: TooWide")

-- the status that the program then ends with
abbrev pub error_status : TrapkeepError → ℕ
error_status NoCommand = usage
error_status (Page error) = status_of error
error_status TooWide = page_refused

-- A cause tells its line and gives its status, and no file is touched.
pub record RefusesError (reason : TrapkeepError) (before after : RackState) (status : ℕ) : Type 0 where
  pub files : KeepsFiles before after
  pub line : TellsText (error_line reason) before after
  pub status_is : status ≡ error_status reason
