-- Lists of trays or of racks, of which each serves one plate: what is done by each of them.
use Rattle.std.specs.Prelude.{◌≡◌, ℕ, ◌<◌, ◌≤◌, List, slice_index_or}

-- Each of the first `count` does this; those after them are as they were.
pub record EachDoes {X : Type 0} (none : X) (count : ℕ) (Does : ℕ → X → X → Type 0)
    (before after : List X) : Type 0 where
  pub each : (k : ℕ) → k < count
      → Does k (slice_index_or before k none) (slice_index_or after k none)
  pub others : (k : ℕ) → count ≤ k → slice_index_or after k none ≡ slice_index_or before k none

-- Number k of `count` stops; each before it does this, and those after it are as they were.
pub record StopsAt {X : Type 0} (none : X) (count k : ℕ) (Does Errors : ℕ → X → X → Type 0)
    (before after : List X) : Type 0 where
  pub known : k < count
  pub each : (j : ℕ) → j < k
      → Does j (slice_index_or before j none) (slice_index_or after j none)
  pub here : Errors k (slice_index_or before k none) (slice_index_or after k none)
  pub others : (j : ℕ) → k < j → slice_index_or after j none ≡ slice_index_or before j none
