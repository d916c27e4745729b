-- A window of a sheet under colour: its inner pixels are covered and drawn back as on the sheet.
use Rattle.std.specs.Prelude.{◌≡◌, ℕ, ◌*◌, List}
use Rattle.page_model.specs.declared.parts.At.{At}
use Rattle.page_model.specs.declared.parts.PageParts.{PageParts}
use Rattle.sheet_geometry.specs.declared.cuts.Cut.{Cut}
use Rattle.sheet_geometry.specs.Windows.{on_sheet, window}
use Rattle.sheet_geometry.specs.WindowLaw.{IsInside}
use Rattle.underprint.specs.declared.parts.White.{White}
use Rattle.underprint.specs.Underprint.{covered, followed, kept, thickness}

-- One pixel from the window's borders a pixel has its sheet's cover. As far from them as ink is
-- followed, ink is as thick as on the sheet. At the halo a pixel has its sheet's new tints: no ink of
-- an underprint is followed farther. Borders of the sheet do not count.
pub record UnderWindowLaw (sheet : PageParts) (cut : Cut) (whites : List White) (halo : ℕ)
    : Type 0 where
  pub cover : (p : At) → IsInside sheet cut 2 p
      → covered (window sheet cut) whites p ≡ covered sheet whites (on_sheet cut p)
  pub thick : (p : At) (wide c : ℕ) → IsInside sheet cut (2 * followed wide sheet.resolution) p
      → thickness (window sheet cut) wide c p ≡ thickness sheet wide c (on_sheet cut p)
  pub tints : (p : At) (c : ℕ) → IsInside sheet cut (2 * halo) p
      → kept (window sheet cut) whites c p ≡ kept sheet whites c (on_sheet cut p)
