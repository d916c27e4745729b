-- A rule that gives the samples of a page new tints, and what a report counts by it.
use Rattle.std.specs.Prelude.{◌≡◌, ℕ, ◌+◌, ◌<◌}
use Rattle.page_model.specs.declared.parts.At.{At}
use Rattle.page_model.specs.declared.parts.PageParts.{PageParts}
use Rattle.page_model.specs.Page.{width, height}
use Rattle.sheet_geometry.specs.declared.cuts.Cut.{Cut}
use Rattle.sheet_geometry.specs.WindowLaw.{IsInside}
use Rattle.sheet_geometry.specs.Windows.{IsCut, on_sheet, window}

-- how far the new tints of a sample depend on others, in half-samples; the new tint of each plate;
-- and what is counted at a sample beside its changes
pub record PageRule : Type 0 where
  pub reach : PageParts → ℕ
  pub tint : PageParts → At → ℕ → ℕ
  pub mark : PageParts → At → ℕ

-- the sample has its neighbours to the right and below in the window, if it has them on the sheet
pub record HasNext (sheet : PageParts) (cut : Cut) (p : At) : Type 0 where
  pub right : cut.left + cut.width < width sheet → p.x + 1 < cut.width
  pub below : cut.top + cut.height < height sheet → p.y + 1 < cut.height

-- A rule is local if the samples of a window that are at least the reach from the window's borders
-- have the sheet's new tints there, and are counted as on the sheet. Borders of the sheet do not
-- count.
pub record IsLocal (rule : PageRule) : Type 0 where
  pub reach : (sheet : PageParts) (cut : Cut) → rule.reach (window sheet cut) ≡ rule.reach sheet
  pub tints : (sheet : PageParts) (cut : Cut) (p : At) (c : ℕ) → IsCut sheet cut
      → IsInside sheet cut (rule.reach sheet) p
      → rule.tint (window sheet cut) p c ≡ rule.tint sheet (on_sheet cut p) c
  pub marks : (sheet : PageParts) (cut : Cut) (p : At) → IsCut sheet cut
      → IsInside sheet cut (rule.reach sheet) p → HasNext sheet cut p
      → rule.mark (window sheet cut) p ≡ rule.mark sheet (on_sheet cut p)
