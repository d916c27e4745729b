-- The line and the status of what stops a command of a sheet.
use Rattle.std.specs.Prelude.{◌≡◌, ℕ, List, ◌++◌, Some, codes, decimal}
use Rattle.outside.specs.Rack.{RackState}
use Rattle.plate_rows.specs.declared.error.RereadError.{RereadError}
use Rattle.plate_rows.specs.declared.error.RereadError.TheVariants.{Changed as NowOther, Unread}
use Rattle.common_errors.specs.declared.common.CommonError.TheVariants.{Read}
use Rattle.common_errors.specs.Lines.{line}
use Rattle.common_errors.specs.CommonErrors.{line_of, page_fault_line, status_of}
use Rattle.common_errors.specs.Statuses.{page_refused}
use Rattle.common_errors.specs.Telling.{KeepsFiles, TellsText}
use Rattle.sheet_geometry.specs.declared.sheet_errors.SheetError.{SheetError}
use Rattle.sheet_geometry.specs.declared.sheet_errors.SheetError.TheVariants.{Far, Fault, Uncut}
use Rattle.sheet_files.specs.declared.error.TrapsheetError.{TrapsheetError}
use Rattle.sheet_files.specs.declared.error.TrapsheetError.TheVariants.{Changed, Common, OfSheet}

-- what the program tells where a second reading stops
abbrev pub error_of : RereadError → TrapsheetError
error_of (NowOther plate) = Changed plate
error_of (Unread plate) = Common (Read (Some plate))

-- the line of what a sheet is refused for
abbrev pub sheet_line : SheetError → List ℕ
sheet_line (Fault fault) = page_fault_line fault
sheet_line (Far zone) = line (codes "sheet: Far in zone " ++ decimal zone)
sheet_line Uncut = line (codes "sheet: Uncut")

-- the line that a stop tells
abbrev pub line_of_error : TrapsheetError → List ℕ
line_of_error (Common common_error) = line_of common_error
line_of_error (OfSheet common_error) = sheet_line common_error
line_of_error (Changed plate) = line (codes "sheet: Changed in plate " ++ decimal plate)

-- the status that the program ends with
abbrev pub status_of_error : TrapsheetError → ℕ
status_of_error (Common common_error) = status_of common_error
status_of_error (OfSheet common_error) = page_refused
status_of_error (Changed plate) = page_refused

-- A stop tells its line and gives its status.
pub record RefusesSheet (error : TrapsheetError) (before after : RackState)
    (status : ℕ) : Type 0 where
  pub files : KeepsFiles before after
  pub line : TellsText (line_of_error error) before after
  pub status_is : status ≡ status_of_error error
