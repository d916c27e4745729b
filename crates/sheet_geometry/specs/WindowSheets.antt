-- What holds of each sheet that is kept in memory.
use Rattle.std.specs.Prelude.{◌<◌, ◌^◌}
use Rattle.page_model.specs.declared.parts.PageParts.{PageParts}
use Rattle.page_model.specs.Page.{height, width}
use Rattle.sheet_geometry.specs.Sheets.{IsNearSheet, IsSheet}

-- a sheet that may be cut: each vertex is in range from each corner, and sums of places fit their
-- numbers
pub record IsCuttable (sheet : PageParts) : Type 0 where
  pub ranges : IsSheet sheet
  pub near : IsNearSheet sheet
  pub narrow : width sheet < 2 ^ 30
  pub low : height sheet < 2 ^ 30
