-- page_law: a sheet within the limits of a page is a page.
use Rattle.sheet_geometry.proofs.Pages.{sheet_is_page}
use Rattle.sheet_geometry.proofs.laws.page_law.Goals as goal

pub returns : goal.returns
returns c = λ sheet is narrow low few. sheet_is_page sheet is narrow low few
