-- What comes of a sheet that was judged, by how it is to be trapped.
use Rattle.std.specs.Prelude.{◌≡◌, ℕ, List, Result, Err}
use Rattle.outside.specs.Rack.{RackState}
use Rattle.outside.specs.Tray.{TrayState}
use Rattle.page_model.specs.declared.parts.PageParts.{PageParts}
use Rattle.page_model.specs.Page.{plates}
use Rattle.plate_rows.specs.Rereading.{StopsReading}
use Rattle.plate_rows.specs.declared.error.RereadError.{RereadError}
use Rattle.common_errors.specs.declared.common.CommonError.TheVariants.{Memory}
use Rattle.sheet_files.specs.declared.error.TrapsheetError.{TrapsheetError}
use Rattle.sheet_files.specs.declared.error.TrapsheetError.TheVariants.{Common}
use Rattle.sheet_stream.specs.Second.{course_of, sheet_header}
use Rattle.sheet_stream.specs.Whole.{IsStored}
use Rattle.trapsheet_cli.specs.Endings.{PutsOut}
use Rattle.sheet_files.specs.Streaming.{StreamsOut}
use Rattle.sheet_files.specs.Errors.{error_of}
use Rattle.trapsheet_cli.specs.Strips.{HasNoStrips}
use Rattle.page_files.specs.Verdicts.{Targets}

-- All rows are read once more and held, and the sheet is put out; or the reading stopped, or there
-- was no memory for it, and no file was begun.
pub data PutsWhole (target : Targets) (inputs : List (List ℕ)) (outline : PageParts)
    (trays trays' : List TrayState) (racks racks' : List RackState)
    (result : Result (Unit {0}) TrapsheetError) : Type 0 where
  stored : (sheet : PageParts) → IsStored inputs outline sheet trays trays'
      → PutsOut target sheet racks racks' result
      → PutsWhole target inputs outline trays trays' racks racks' result
  stopped : (error : RereadError) → result ≡ Err (error_of error)
      → StopsReading inputs (λ k. sheet_header outline) (plates outline) trays trays' error
      → racks' ≡ racks → PutsWhole target inputs outline trays trays' racks racks' result
  no_memory : result ≡ Err (Common Memory) → trays' ≡ trays → racks' ≡ racks
      → PutsWhole target inputs outline trays trays' racks racks' result

-- The sheet streams in strips, or it has none of one height.
pub data PutsPlanned (target : Targets) (inputs : List (List ℕ)) (outline : PageParts)
    (trays trays' : List TrayState) (racks racks' : List RackState)
    (result : Result (Unit {0}) TrapsheetError) : Type 0 where
  streamed : StreamsOut (course_of inputs target.outputs trays racks) target.report outline trays'
      racks' result → PutsPlanned target inputs outline trays trays' racks racks' result
  whole : HasNoStrips outline → PutsWhole target inputs outline trays trays' racks racks' result
      → PutsPlanned target inputs outline trays trays' racks racks' result
