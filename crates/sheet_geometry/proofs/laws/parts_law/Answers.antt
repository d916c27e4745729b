-- parts_law: a sheet may be made of whatever a page may be made of.
use Rattle.sheet_geometry.proofs.Pages.{parts_of_sheet}
use Rattle.sheet_geometry.proofs.laws.parts_law.Goals as goal

pub returns : goal.returns
returns c = λ page is. parts_of_sheet page is
