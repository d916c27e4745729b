-- What contracts see of the room for the work on a row.
use Rattle.std.specs.Prelude.{ℕ}

-- the samples of the rows that it was made for, and how much memory it has for the counts of
-- crossings, upwards and downwards
pub record Workspace : Type 0 where
  pub wide : ℕ
  pub ups : ℕ
  pub downs : ℕ
