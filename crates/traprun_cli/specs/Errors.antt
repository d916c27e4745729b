-- What is printed where a run stops.
use Rattle.std.specs.Prelude.{◌≡◌, ℕ, List, ◌++◌, codes, decimal}
use Rattle.outside.specs.Rack.{RackState}
use Rattle.traprun_cli.specs.declared.error.TraprunError.{TraprunError}
use Rattle.traprun_cli.specs.declared.error.TraprunError.TheVariants.{Whole, TooManyPages}
use Rattle.traprun_cli.specs.declared.error.TraprunError.TheVariants.{AtPage}
use Rattle.traprun_cli.specs.declared.error.TraprunError.TheVariants.{Ends, Extra}
use Rattle.common_errors.specs.declared.common.CommonError.{CommonError}
use Rattle.common_errors.specs.declared.common.CommonError.TheVariants.{Usage, Job, NoDetails, Plate}
use Rattle.common_errors.specs.declared.common.CommonError.TheVariants.{Page, Read, Write, Memory}
use Rattle.common_errors.specs.CommonErrors.{line_of, numbered_line, status_of}
use Rattle.common_errors.specs.Lines.{line}
use Rattle.common_errors.specs.Statuses.{job_refused, page_refused}
use Rattle.common_errors.specs.Telling.{KeepsFiles, TellsText}

-- the line that a stop tells
abbrev pub line_of_error : TraprunError → List ℕ
line_of_error (Whole common_error) = line_of common_error
line_of_error (TooManyPages at) = line (codes "run: TooManyPages at " ++ decimal at)
line_of_error (AtPage page common_error) = numbered_line page common_error
line_of_error (Ends page plate) =
    line (codes "page " ++ decimal page ++ codes ": plate " ++ decimal plate ++ codes ": Ends")
line_of_error (Extra plate) = line (codes "run: plate " ++ decimal plate ++ codes ": Extra")

-- the status that the program ends with
abbrev pub status_of_error : TraprunError → ℕ
status_of_error (Whole common_error) = status_of common_error
status_of_error (TooManyPages at) = job_refused
status_of_error (AtPage page common_error) = status_of common_error
status_of_error (Ends page plate) = page_refused
status_of_error (Extra plate) = page_refused

-- the stop that a page's error is; out of memory belongs to no page
abbrev pub error_at : ℕ → CommonError → TraprunError
error_at page Memory = Whole Memory
error_at page Usage = AtPage page Usage
error_at page (Job fault) = AtPage page (Job fault)
error_at page (NoDetails plate) = AtPage page (NoDetails plate)
error_at page (Plate plate fault) = AtPage page (Plate plate fault)
error_at page (Page fault) = AtPage page (Page fault)
error_at page (Read file) = AtPage page (Read file)
error_at page (Write file) = AtPage page (Write file)

-- A stop tells its line and gives its status.
pub record RefusesRun (error : TraprunError) (before after : RackState) (status : ℕ) : Type 0 where
  pub files : KeepsFiles before after
  pub line : TellsText (line_of_error error) before after
  pub status_is : status ≡ status_of_error error
