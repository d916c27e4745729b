-- What a board reads of the work to be done: how many pieces and cells there are, which cells a
-- piece has, and what it needs.
use Rattle.std.specs.Prelude.{◌≡◌, ℕ, ◌+◌, ◌<◌, ◌≤◌, Bool, true}

pub record Shape : Type 0 where
  pub pieces : ℕ
  pub cells : ℕ
  -- the first cell of a piece, and how many it has
  pub start : ℕ → ℕ
  pub size : ℕ → ℕ
  -- whether a piece needs another
  pub needs : ℕ → ℕ → Bool

-- cell j is one of piece i
pub record Has (k : Shape) (i j : ℕ) : Type 0 where
  pub piece : i < k.pieces
  pub from : k.start i ≤ j
  pub below : j < k.start i + k.size i

-- the pieces' cells stand in their order and within the cells, and each need is an earlier piece
pub record IsShape (k : Shape) : Type 0 where
  pub in_order : (i j : ℕ) → i < j → j < k.pieces → k.start i + k.size i ≤ k.start j
  pub inside : (i : ℕ) → i < k.pieces → k.start i + k.size i ≤ k.cells
  pub earlier : (i n : ℕ) → i < k.pieces → k.needs i n ≡ true → n < i
