-- A board on which no piece is claimed can go on, unless all is done.
use Rattle.std.specs.Prelude.{◌≡◌, ℕ, ◌<◌, true, false}
use Rattle.band_core.specs.TableShapes.{Shape}
use Rattle.band_core.specs.Boards.{Board, is_free, is_claimed, is_done}

-- piece f is free, and all its needs are done
pub record IsReady (k : Shape) (board : Board) (f : ℕ) : Type 0 where
  pub piece : f < k.pieces
  pub free : is_free board f ≡ true
  pub needs : (n : ℕ) → k.needs f n ≡ true → is_done board n ≡ true

abbrev pub NeverStuck : Shape → Type 0
NeverStuck k = (board : Board) → ((i : ℕ) → i < k.pieces → is_claimed board i ≡ false) → (i : ℕ)
    → i < k.pieces → is_done board i ≡ false → (f : ℕ) × IsReady k board f
