-- What contracts see of the room for a row's hull.
use Rattle.std.specs.Prelude.{ℕ}

-- the doubled columns of the rows that it was made for, and how much memory it has for the places
-- of arms and for where each begins
pub record Workspace : Type 0 where
  pub columns : ℕ
  pub places : ℕ
  pub starts : ℕ
