-- Points of the code, in exact units, and the points of the definition that they are.
use Rattle.std.specs.Prelude.{ℕ, ◌+◌, ◌*◌, ◌≤◌, ℤ, nat_abs, pos}
use Rattle.page_model.specs.Limits.{most_coordinate, most_resolution, scale}
use Rattle.page_model.specs.Zones.{Point}
use Rattle.zone_map.specs.declared.crossings.PagePoint.{PagePoint}

abbrev pub point : PagePoint → Point
point s = record { px = s.x; py = s.y }

-- the middle of sample x in the row at height y
abbrev pub middle : ℕ → ℤ → Point
middle x y = record { px = pos ((2 * x + 1) * (36 * scale)); py = y }

-- how far a point may stand from the lower left corner: as far as a vertex, at the most pixels an
-- inch
abbrev pub furthest : ℕ
furthest = most_coordinate * most_resolution

-- within the range of vertices
pub record IsNear (s : PagePoint) : Type 0 where
  pub x_near : nat_abs s.x ≤ furthest
  pub y_near : nat_abs s.y ≤ furthest
