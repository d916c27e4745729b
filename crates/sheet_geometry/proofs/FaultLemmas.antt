-- Parts without a fault are a sheet.
use Rattle.std.proofs.Common.{◌≡◌, length, None}
use Rattle.lists.specs.Words.{first_some}
use Rattle.lists.proofs.FirstSome.{both_none, each_none}
use Rattle.page_model.specs.declared.parts.PageParts.{PageParts}
use Rattle.page_model.specs.Faults.{difference, too_wide}
use Rattle.page_model.specs.Page.{plates}
use Rattle.page_model.proofs.FaultLemmas.{agrees_from, near_from}
use Rattle.sheet_geometry.specs.CommonErrors.{parts_fault}
use Rattle.sheet_geometry.specs.Sheets.{IsSheet, IsSheetParts}

pub sheet_from : (sheet : PageParts) → IsSheetParts sheet → parts_fault sheet ≡ None → IsSheet sheet
sheet_from sheet parts h =
    let both = both_none (first_some (difference sheet) (plates sheet)) (first_some (too_wide sheet) (length sheet.zones)) h in
    record {
      parts = parts;
      agree = λ c l. agrees_from sheet c (each_none (difference sheet) (plates sheet) both.0 c l);
      near = λ z l. near_from sheet z (each_none (too_wide sheet) (length sheet.zones) both.1 z l);
    }
