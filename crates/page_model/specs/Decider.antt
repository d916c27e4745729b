-- The decider of a sample: the nearest deciding edge; of equally near ones the leftmost, then
-- the uppermost.
use Rattle.std.specs.Prelude.{◌≡◌, ℕ, ◌+◌, ◌-◌, ◌*◌, ◌/◌, ◌%◌, ◌<◌, ◌≤◌, ◌⊎◌, Bool, true, ◌&&◌}
use Rattle.std.specs.Prelude.{◌==◌, Option}
use Rattle.std.specs.Option.{option_map}
use Rattle.page_model.specs.declared.parts.At.{At}
use Rattle.page_model.specs.declared.parts.EdgeAt.{EdgeAt}
use Rattle.page_model.specs.declared.parts.PageParts.{PageParts}
use Rattle.page_model.specs.Page.{width, height}
use Rattle.page_model.specs.Edges.{IsEdge, d2}
use Rattle.page_model.specs.Deciding.{decides}
use Rattle.lists.specs.Words.{first_least}

-- the points of the doubled grid are numbered column by column from the left, in each from the top
abbrev pub grid_rows : PageParts → ℕ
grid_rows page = 2 * height page - 1

-- how many points the doubled grid has
abbrev pub grid_points : PageParts → ℕ
grid_points page = (2 * width page - 1) * grid_rows page

-- the point of a number, column after column from the left, each from the top
abbrev pub grid_point : PageParts → ℕ → EdgeAt
grid_point page k = record { x2 = k / grid_rows page; y2 = k % grid_rows page }

-- the point is an edge that decides
abbrev pub is_candidate : PageParts → EdgeAt → Bool
is_candidate page e = ((e.x2 + e.y2) % 2 == 1) && decides page e

-- the deciding edge of the whole page with the least (d2, X, Y), which the sample is trapped at
-- if at any
unfoldable pub decider : PageParts → At → Option EdgeAt
decider page p = option_map (grid_point page)
    (first_least (λ k. d2 p (grid_point page k)) (λ k. is_candidate page (grid_point page k))
    (grid_points page))

-- (d2, X, Y) of e is at most that of f
abbrev pub AtMost : At → EdgeAt → EdgeAt → Type 0
AtMost p e f =
    (d2 p e < d2 p f) ⊎ ((d2 p e ≡ d2 p f) × ((e.x2 < f.x2) ⊎ ((e.x2 ≡ f.x2) × (e.y2 ≤ f.y2))))

-- the edge decides, and no deciding edge of the page comes before it
pub record IsDecider (page : PageParts) (p : At) (e : EdgeAt) : Type 0 where
  pub edge : IsEdge page e
  pub deciding : decides page e ≡ true
  pub least : (f : EdgeAt) → IsEdge page f → decides page f ≡ true → AtMost p e f

-- no edge of the page decides
abbrev pub NoneDecides : PageParts → Type 0
NoneDecides page = (f : EdgeAt) → IsEdge page f → decides page f ≡ true → ⊥
