-- Sheet::refill: the window as a page, put in the place of a page with the sheet's form and the
-- window's sides, as an earlier window of it or of another sheet of its form is.
use Rattle.std.proofs.Common.{sym, subst}
use Rattle.page_model.specs.Conditions.{IsPage}
use Rattle.sheet_geometry.proofs.Pages.{window_is_page}
use Rattle.sheet_geometry.proofs.window_sheet.Sheet.refill.Goals as goal

pub page_of-requires : goal.page_of-requires
page_of-requires c =
    let whole = c.width-valid.ensures.valid in
    subst IsPage (sym c.put_parts.ensures) (window_is_page c.args.self.now c.args.cut.now whole.ranges whole.near c.requires.cut c.requires.small)
