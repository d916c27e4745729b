-- Where the cells of all pieces stand, one piece after the other, and how many values a cell holds.
use Rattle.std.specs.Prelude.{ℕ, ◌≤◌}
use Rattle.page_model.specs.declared.bands.Bands.{Bands}
use Rattle.page_model.specs.Bands.{AreBands}
use Rattle.page_model.specs.Limits.{most_plates, most_side}

-- for pages of that width and number of plates, in these bands
pub record Layout : Type 0 where
  pub bands : Bands
  pub width : ℕ
  pub plates : ℕ

-- bands of a page, and the ranges of a page's width and plates
pub record IsLayout (layout : Layout) : Type 0 where
  pub bands : AreBands layout.bands
  pub some_width : 1 ≤ layout.width
  pub narrow : layout.width ≤ most_side
  pub some_plates : 1 ≤ layout.plates
  pub few_plates : layout.plates ≤ most_plates
