-- Sheet::window: the window as a page.
use Rattle.std.proofs.Common.{sym, subst}
use Rattle.page_model.specs.Conditions.{IsPage}
use Rattle.sheet_geometry.proofs.Pages.{window_is_page}
use Rattle.sheet_geometry.proofs.window_sheet.Sheet.window.Goals as goal

pub page_of-requires : goal.page_of-requires
page_of-requires c =
    let whole = c.width-valid.ensures.valid in
    subst IsPage (sym c.in_ok-parts.ensures) (window_is_page c.args.self.now c.args.cut.now whole.ranges whole.near c.requires.cut c.requires.small)
