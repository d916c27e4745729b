-- The nearest arms of the samples of a row, each by its place among the row's arms.
use Rattle.std.specs.Prelude.{◌≡◌, ℕ, ◌+◌, ◌*◌, ◌<◌, ◌≤◌, List, length, slice_index, None}
use Rattle.std.specs.Prelude.{MatchOption, Option, slice_index_or}
use Rattle.page_model.specs.declared.parts.PageParts.{PageParts}
use Rattle.page_model.specs.Columns.{column_decider}
use Rattle.page_model.specs.Page.{width}
use Rattle.row_values.specs.Arms.{edge_at_place}
use Rattle.page_model.specs.Limits.{level_code}

-- Each place is that of a column whose code can be turned into an edge, or there is none.
abbrev pub AreKnown : ℕ → ℕ → List ℕ → List ℕ → List (Option ℕ) → Type 0
AreKnown wide y codes columns places = (x : ℕ) → x < wide
    → MatchOption (slice_index_or places x None) (0 ≤ y)
    (λ k. (k < length columns) × (slice_index columns k < length codes)
    × (level_code ≤ slice_index codes (slice_index columns k) + 2 * y))

-- The edge at each place is the one that decides its sample, by the page's columns.
abbrev pub AreDeciders : PageParts → ℕ → ℕ → List ℕ → List ℕ → List (Option ℕ) → Type 0
AreDeciders page reach y codes columns places = (x : ℕ) → x < width page
    → edge_at_place codes y columns (slice_index_or places x None)
    ≡ column_decider page reach (record { x = x; y = y })
