-- Rows in which nothing changes, since no mark is within reach of them.
use Rattle.std.specs.Prelude.{◌≡◌, ℕ, ◌+◌, ◌*◌, ◌<◌, ◌≤◌, Bool, true, false, nat_le, List, length}
use Rattle.std.specs.Prelude.{slice_index, Option, Some, None}
use Rattle.page_model.specs.declared.parts.At.{At}
use Rattle.page_model.specs.declared.parts.EdgeAt.{EdgeAt}
use Rattle.page_model.specs.declared.parts.PageParts.{PageParts}
use Rattle.page_model.specs.Deciding.{decides}
use Rattle.page_model.specs.Edges.{IsEdge, d2}
use Rattle.page_model.specs.Page.{plates, tint, width}
use Rattle.page_model.specs.Reach.{page_reach}
use Rattle.page_model.specs.Tints.{new}
use Rattle.lists.specs.Words.{gap, square}

-- no edge decides that is at most the page's reach away along each side
abbrev pub NoMarkNear : PageParts → At → Type 0
NoMarkNear page p = (e : EdgeAt) → IsEdge page e → gap e.x2 (2 * p.x) ≤ page_reach page
    → gap e.y2 (2 * p.y) ≤ page_reach page → decides page e ≡ false

-- each plate keeps its tint
abbrev pub KeepsTints : PageParts → At → Type 0
KeepsTints page p = (c : ℕ) → new page p c ≡ tint page c p

-- there is no edge, or it is farther from the sample than the reach and a half-sample
abbrev pub is_far_off : At → ℕ → Option EdgeAt → Bool
is_far_off p reach None = true
is_far_off p reach (Some e) = nat_le (square (reach + 1)) (d2 p e)

-- row y, plate after plate: the new tints of its first n samples, and the page's own tints of
-- the others
pub record IsRowTo (page : PageParts) (y n : ℕ) (tints : List ℕ) : Type 0 where
  pub long : length tints ≡ plates page * width page
  pub done : (c x : ℕ) → c < plates page → x < n → x < width page
      → slice_index tints (c * width page + x) ≡ new page (record { x = x; y = y }) c
  pub rest : (c x : ℕ) → c < plates page → n ≤ x → x < width page
      → slice_index tints (c * width page + x) ≡ tint page c (record { x = x; y = y })

-- the same, where the first c plates have the new tint of sample n too
pub record IsRowPut (page : PageParts) (y n c : ℕ) (tints : List ℕ) : Type 0 where
  pub long : length tints ≡ plates page * width page
  pub done : (j x : ℕ) → j < plates page → x < n → x < width page
      → slice_index tints (j * width page + x) ≡ new page (record { x = x; y = y }) j
  pub here : (j : ℕ) → j < c → j < plates page
      → slice_index tints (j * width page + n) ≡ new page (record { x = n; y = y }) j
  pub there : (j : ℕ) → c ≤ j → j < plates page
      → slice_index tints (j * width page + n) ≡ tint page j (record { x = n; y = y })
  pub rest : (j x : ℕ) → j < plates page → n < x → x < width page
      → slice_index tints (j * width page + x) ≡ tint page j (record { x = x; y = y })
