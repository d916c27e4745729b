-- page_in_sheet: each plate file of a page is one of a sheet.
use Rattle.pgm_plates.proofs.Facts.{page_in_sheet}
use Rattle.pgm_plates.proofs.laws.page_in_sheet.Goals as goal

pub returns : goal.returns
returns c = page_in_sheet
