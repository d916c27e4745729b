-- whole_law: the window that has all columns and rows of a sheet is the sheet.
use Rattle.sheet_geometry.proofs.Whole.{whole_law}
use Rattle.sheet_geometry.proofs.laws.whole_law.Goals as goal

pub returns : goal.returns
returns c = whole_law
