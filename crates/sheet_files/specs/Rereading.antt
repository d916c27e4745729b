-- The plates of a sheet that was judged, read once more, row by row.
use Rattle.std.specs.Prelude.{◌≡◌, ℕ, ◌<◌, List, length}
use Rattle.outside.specs.Tray.{TrayState}
use Rattle.page_files.specs.Inputs.{Sources}
use Rattle.page_model.specs.declared.parts.PageParts.{PageParts}
use Rattle.page_model.specs.Page.{maxval}
use Rattle.pgm_plates.specs.declared.rows.OpenPlate.{OpenPlate}
use Rattle.plate_rows.specs.Rereading.{HaveRead, turned}
use Rattle.plate_rows.specs.Trays.{open_at}
use Rattle.sheet_geometry.specs.declared.budget.Budget.{Budget}
use Rattle.sheet_files.specs.declared.planning.PlannedSheet.{PlannedSheet}
use Rattle.sheet_files.specs.Gathering.{IsMadeSheet, TakesTrays}
use Rattle.sheet_files.specs.Judging.{IsJudged, header_in}
use Rattle.sheet_geometry.specs.Begun.{BeginsWith}

-- the tints that were read of plate c, of a sheet that is bare so
abbrev pub tints_read : PageParts → (ℕ → List ℕ) → ℕ → List ℕ
tints_read outline samples c = turned (maxval outline) (samples c)

-- After the first reading some samples of each plate were read once more, and its header is still
-- the sheet's.
pub record IsReread (source : Sources) (outline : PageParts) (plates : List OpenPlate)
    (samples : ℕ → List ℕ) (between after : List TrayState) : Type 0 where
  pub count : length plates ≡ length source.inputs
  pub headers : (k : ℕ) → k < length source.inputs → (open_at plates k).header ≡ header_in outline
  pub read : HaveRead source.inputs plates (length source.inputs) samples between after

-- There is a sheet that begins with what was read again, and it is the one that the job and the
-- plates make, where the trays tell their bytes.
abbrev pub SheetIsReread : Type 0
SheetIsReread = (source : Sources) (budget : Budget) (judged : PlannedSheet)
    (plates : List OpenPlate) (samples : ℕ → List ℕ) (before between after : List TrayState)
    → TakesTrays source before between → IsJudged source budget before judged
    → IsReread source judged.outline plates samples between after → (sheet : PageParts)
    × IsMadeSheet source before sheet
    × BeginsWith judged.outline (tints_read judged.outline samples) sheet
