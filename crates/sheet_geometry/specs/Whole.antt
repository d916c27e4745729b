-- The window of a sheet that is the whole sheet.
use Rattle.std.specs.Prelude.{◌≡◌}
use Rattle.page_model.specs.declared.parts.PageParts.{PageParts}
use Rattle.page_model.specs.Page.{height, width}
use Rattle.sheet_geometry.specs.declared.cuts.Cut.{Cut}
use Rattle.sheet_geometry.specs.Windows.{IsCut, window}

-- all columns and rows
abbrev pub whole : PageParts → Cut
whole sheet = record { left = 0; top = 0; width = width sheet; height = height sheet }

-- it is a cut, and its window is the sheet itself
pub record WholeLaw (sheet : PageParts) : Type 0 where
  pub cut : IsCut sheet (whole sheet)
  pub same : window sheet (whole sheet) ≡ sheet
