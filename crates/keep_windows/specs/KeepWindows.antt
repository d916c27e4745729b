-- A window of a sheet under black: its inner pixels are covered and drawn back as on the sheet.
use Rattle.std.specs.Prelude.{◌≡◌, ℕ, ◌+◌, ◌*◌}
use Rattle.page_model.specs.declared.parts.At.{At}
use Rattle.page_model.specs.declared.parts.PageParts.{PageParts}
use Rattle.sheet_geometry.specs.declared.cuts.Cut.{Cut}
use Rattle.sheet_geometry.specs.Windows.{on_sheet, window}
use Rattle.sheet_geometry.specs.WindowLaw.{IsInside}
use Rattle.keepaway.specs.declared.parts.RichBlack.{RichBlack}
use Rattle.keepaway.specs.Keepaway.{covered, kept}

-- where nothing is farther than the radius, a pixel has its sheet's cover one pixel from the
-- window's borders, and its sheet's new tints one pixel more than the radius from them; borders of
-- the sheet do not count
pub record KeepWindowLaw (sheet : PageParts) (cut : Cut) (rich : RichBlack) (radius : ℕ)
    : Type 0 where
  pub cover : (p : At) → IsInside sheet cut 2 p
      → covered (window sheet cut) rich.limit p ≡ covered sheet rich.limit (on_sheet cut p)
  pub tints : (p : At) (c : ℕ) → IsInside sheet cut (2 * (radius + 1)) p
      → kept (window sheet cut) rich c p ≡ kept sheet rich c (on_sheet cut p)
