-- What comes of a sheet that is read once more with all its rows.
use Rattle.std.specs.Prelude.{◌≡◌, ℕ, ◌<◌, ◌^◌, List, Result, Ok, Err}
use Rattle.sheet_geometry.specs.Outline.{outline_sheet}
use Rattle.sheet_geometry.specs.declared.plan.Plan.{Plan}
use Rattle.outside.specs.Tray.{TrayState}
use Rattle.page_model.specs.declared.parts.PageParts.{PageParts}
use Rattle.page_model.specs.Page.{height, plates, width}
use Rattle.plate_rows.specs.Rereading.{StopsReading}
use Rattle.plate_rows.specs.declared.error.RereadError.{RereadError}
use Rattle.common_errors.specs.declared.common.CommonError.TheVariants.{Memory}
use Rattle.sheet_files.specs.declared.error.TrapsheetError.{TrapsheetError}
use Rattle.sheet_files.specs.declared.error.TrapsheetError.TheVariants.{Common}
use Rattle.sheet_stream.specs.Second.{sheet_header}
use Rattle.sheet_stream.specs.Whole.{IsStored}
use Rattle.sheet_geometry.specs.Sheets.{IsSheet}
use Rattle.sheet_files.specs.Errors.{error_of}
use Rattle.sheet_files.specs.Trapping.{CanTrap}

-- Each sheet that is bare so can be trapped as it is planned.
pub record CanHold (outline : PageParts) (plan : Plan) : Type 0 where
  pub narrow : width outline < 2 ^ 30
  pub low : height outline < 2 ^ 30
  pub can : (sheet : PageParts) → IsSheet sheet → outline_sheet sheet ≡ outline → CanTrap sheet plan

-- All of the sheet is held; or the reading stopped, or there was no memory and no file was begun.
pub data HoldsAll (inputs : List (List ℕ)) (outline : PageParts) (before after : List TrayState)
    (result : Result PageParts TrapsheetError) : Type 0 where
  stored : (sheet : PageParts) → result ≡ Ok sheet → IsStored inputs outline sheet before after
      → HoldsAll inputs outline before after result
  stopped : (error : RereadError) → result ≡ Err (error_of error)
      → StopsReading inputs (λ k. sheet_header outline) (plates outline) before after error
      → HoldsAll inputs outline before after result
  no_memory : result ≡ Err (Common Memory) → after ≡ before
      → HoldsAll inputs outline before after result
