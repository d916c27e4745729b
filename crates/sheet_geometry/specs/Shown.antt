-- The tints that a window shows of a plane.
use Rattle.std.specs.Prelude.{ℕ, ◌+◌, ◌*◌, ◌/◌, ◌%◌, ◌<◌, ◌≤◌, ◌^◌, List, slice_index}
use Rattle.lists.specs.Words.{list_below}
use Rattle.sheet_geometry.specs.declared.cuts.Cut.{Cut}

-- the first of them, row by row
abbrev pub shown_tints : ℕ → Cut → List ℕ → ℕ → List ℕ
shown_tints wide cut tints count = list_below (λ k. slice_index tints
    ((cut.top + k / cut.width) * wide + (cut.left + k % cut.width))) count

-- `count` tints, in rows of `wide`, cover the window
pub record Covers (wide : ℕ) (cut : Cut) (count : ℕ) : Type 0 where
  pub some_width : 1 ≤ cut.width
  pub across : cut.left + cut.width ≤ wide
  pub down : (cut.top + cut.height) * wide ≤ count
  pub low : cut.top + cut.height < 2 ^ 31
  pub narrow : wide < 2 ^ 31
