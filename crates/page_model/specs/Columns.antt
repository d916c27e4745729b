-- For each column of the doubled grid the nearest deciding edge above or below a row.
use Rattle.std.specs.Prelude.{◌≡◌, ℕ, ◌+◌, ◌-◌, ◌*◌, ◌/◌, ◌%◌, ◌<◌, ◌≤◌, Bool, true, false, ◌&&◌}
use Rattle.std.specs.Prelude.{◌==◌, nat_le, Option, Some, None}
use Rattle.std.specs.Option.{option_map}
use Rattle.page_model.specs.declared.parts.At.{At}
use Rattle.page_model.specs.declared.parts.EdgeAt.{EdgeAt}
use Rattle.page_model.specs.declared.parts.PageParts.{PageParts}
use Rattle.page_model.specs.Page.{width, height}
use Rattle.page_model.specs.Decider.{grid_rows}
use Rattle.page_model.specs.Deciding.{decides}
use Rattle.page_model.specs.Edges.{d2}
use Rattle.page_model.specs.Marks.{Marked, HoldsEdge, stored_rows, marked}
use Rattle.lists.specs.Words.{gap, first_least}
use Rattle.page_model.specs.Limits.{level_code}

-- whether (x2, y2) is an edge of the page that decides
unfoldable pub edge_decides : PageParts → ℕ → ℕ → Bool
edge_decides page x2 y2 = ((x2 + y2) % 2 == 1)
    && (nat_le (x2 + 2) (2 * width page)
    && (nat_le (y2 + 2) (2 * height page) && decides page (record { x2 = x2; y2 = y2 })))

-- the deciding edge of doubled column x2 with the least (|Y - 2y|, Y) among those with |Y - 2y|
-- at most the reach: its Y
unfoldable pub column_edge : PageParts → ℕ → ℕ → ℕ → Option ℕ
column_edge page reach x2 y = first_least (λ y2. gap y2 (2 * y))
    (λ y2. edge_decides page x2 y2 && nat_le (gap y2 (2 * y)) reach) (grid_rows page)

-- 0 for none, else the offset Y - 2y plus the code of a level answer
abbrev pub offset_code : ℕ → Option ℕ → ℕ
offset_code y None = 0
offset_code y (Some y2) = y2 + level_code - 2 * y

-- the answer of a doubled column at row y, as the code writes it
unfoldable pub column_answer : PageParts → ℕ → ℕ → ℕ → ℕ
column_answer page reach x2 y = offset_code y (column_edge page reach x2 y)

-- the marks are those of the page's deciding edges
pub record AreMarks (page : PageParts) (m : Marked) : Type 0 where
  pub wide : m.wide ≡ width page
  pub inside : m.top + stored_rows m ≤ height page
  pub each : (x2 y2 : ℕ) → HoldsEdge m x2 y2 → marked m x2 y2 ≡ edge_decides page x2 y2

-- the rows above and below that a reach in half-samples touches
abbrev pub halo : ℕ → ℕ
halo reach = (reach + 1) / 2

-- the marks of a row are held
pub record HoldsRow (m : Marked) (row : ℕ) : Type 0 where
  pub from : m.top ≤ row
  pub to : row < m.top + stored_rows m

-- the asked rows are rows of the page, and all rows of the page within half the reach of them
-- are held
pub record CoverRows (page : PageParts) (m : Marked) (first rows reach : ℕ) : Type 0 where
  pub some : 1 ≤ rows
  pub asked : first + rows ≤ height page
  pub near : (row : ℕ) → row < height page → first ≤ row + halo reach
      → row < first + rows + halo reach → HoldsRow m row

-- whether a column has an edge
abbrev pub is_answer : Option ℕ → Bool
is_answer None = false
is_answer (Some y2) = true

-- the Y of a column's edge, 0 for none
abbrev pub answer_or_0 : Option ℕ → ℕ
answer_or_0 None = 0
answer_or_0 (Some y2) = y2

-- the edge of column x2 that its answer for row y names
abbrev pub answer_edge : PageParts → ℕ → ℕ → ℕ → EdgeAt
answer_edge page reach y x2 = record { x2 = x2; y2 = answer_or_0 (column_edge page reach x2 y) }

-- of the edges that the column answers of p's row name the one with the least (d2, X)
unfoldable pub column_decider : PageParts → ℕ → At → Option EdgeAt
column_decider page reach p = option_map (answer_edge page reach p.y)
    (first_least (λ x2. d2 p (answer_edge page reach p.y x2))
    (λ x2. is_answer (column_edge page reach x2 p.y)) (2 * width page - 1))
