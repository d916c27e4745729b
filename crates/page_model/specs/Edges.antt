-- Edges between neighbouring samples on the doubled grid: their two sides, and how far a sample
-- is from them.
use Rattle.std.specs.Prelude.{◌≡◌, ℕ, ◌+◌, ◌*◌, ◌/◌, ◌%◌, ◌≤◌, Bool, nat_lt, ◌==◌, if◌then◌else◌}
use Rattle.page_model.specs.declared.parts.At.{At}
use Rattle.page_model.specs.declared.parts.EdgeAt.{EdgeAt}
use Rattle.page_model.specs.declared.parts.PageParts.{PageParts}
use Rattle.page_model.specs.Page.{width, height}
use Rattle.lists.specs.Words.{gap, square}

-- an edge of the page: a point of the doubled grid between two side-neighbours
pub record IsEdge (page : PageParts) (e : EdgeAt) : Type 0 where
  pub one_odd : (e.x2 + e.y2) % 2 ≡ 1
  pub across_page : e.x2 + 2 ≤ 2 * width page
  pub down_page : e.y2 + 2 ≤ 2 * height page

-- the edge between (x, y) and its right neighbour
abbrev pub right_edge : ℕ → ℕ → EdgeAt
right_edge x y = record { x2 = 2 * x + 1; y2 = 2 * y }

-- the edge between (x, y) and the sample below it
abbrev pub lower_edge : ℕ → ℕ → EdgeAt
lower_edge x y = record { x2 = 2 * x; y2 = 2 * y + 1 }

-- the edge's left or upper sample
abbrev pub first : EdgeAt → At
first e = record { x = e.x2 / 2; y = e.y2 / 2 }

-- the edge's right or lower sample
abbrev pub second : EdgeAt → At
second e = record { x = (e.x2 + 1) / 2; y = (e.y2 + 1) / 2 }

-- p lies on the side of the edge's first sample
abbrev pub on_first_side : At → EdgeAt → Bool
on_first_side p e = if e.x2 % 2 == 1 then nat_lt (2 * p.x) e.x2 else nat_lt (2 * p.y) e.y2

-- the edge's sample on p's side of it
abbrev pub own : At → EdgeAt → At
own p e = if on_first_side p e then first e else second e

-- the edge's sample on the other side
abbrev pub across : At → EdgeAt → At
across p e = if on_first_side p e then second e else first e

-- the squared distance of p's middle from the edge, in half-samples
abbrev pub d2 : At → EdgeAt → ℕ
d2 p e = square (gap e.x2 (2 * p.x)) + square (gap e.y2 (2 * p.y))
