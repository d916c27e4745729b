-- What contracts see of the buffers of a count.
use Rattle.std.specs.Prelude.{ℕ}

-- the sides of the pages that the buffers have room for, and how much memory each of them has: for
-- a row of a plate, for each column, and for the samples of a page
pub record Sides : Type 0 where
  pub wide : ℕ
  pub tall : ℕ
  pub row : ℕ
  pub until : ℕ
  pub shades : ℕ
