-- window_page_law: a window within the limits of a page is a page, if the sheet keeps all other
-- ranges of a page, and its vertices are in range from each of its corners.
use Rattle.sheet_geometry.proofs.Pages.{window_is_page}
use Rattle.sheet_geometry.proofs.laws.window_page_law.Goals as goal

pub returns : goal.returns
returns c = λ sheet cut ok near is small. window_is_page sheet cut ok near is small
