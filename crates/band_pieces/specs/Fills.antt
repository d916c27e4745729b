-- What of a closed table's words is known, and what filling a piece of it changes.
use Rattle.std.specs.Prelude.{◌≡◌, ◌≢◌, ℕ, ◌+◌, ◌<◌, ◌≤◌, ◌&&◌, not, nat_lt, ◌==◌, length}
use Rattle.std.specs.Prelude.{slice_index, slice_set}
use Rattle.band_core.specs.TableShapes.{Has}
use Rattle.band_claims.specs.Receipt.{Receipt}
use Rattle.band_claims.specs.Rule.{cell_word, piece_word}
use Rattle.band_claims.specs.TableKeys.{cell, shape_of}
use Rattle.band_claims.specs.Views.{one_if, times}

-- each cell of the piece has its defined value
abbrev pub HasCells : Receipt → ℕ → Type 0
HasCells receipt piece = (j : ℕ) → Has (shape_of receipt.table_key) piece j
    → cell_word (shape_of receipt.table_key) receipt.words j ≡ cell receipt.table_key j

-- the lists of the last pass stay, what the passes left, and the memory of the marks
pub record KeepsLists (before after : Receipt) : Type 0 where
  pub published : after.published ≡ before.published
  pub seen : after.seen ≡ before.seen
  pub looked : after.looked ≡ before.looked
  pub reported : after.reported ≡ before.reported
  pub left : after.left ≡ before.left
  pub workspace : after.workspace ≡ before.workspace

-- the cells of the piece have their defined values, and all else stays
pub record FillsPiece (before after : Receipt) (piece : ℕ) : Type 0 where
  pub table_key : after.table_key ≡ before.table_key
  pub lists : KeepsLists before after
  pub alone : after.alone ≡ before.alone
  pub long : length after.words ≡ length before.words
  pub states : (i : ℕ) → i < (shape_of before.table_key).pieces
      → slice_index after.words i ≡ slice_index before.words i
  pub filled : HasCells after piece
  pub others : (i : ℕ) → i < (shape_of before.table_key).pieces → HasCells before i
      → HasCells after i

-- cell o of the piece has its defined value, and all else stays
pub record FillsTo (before after : Receipt) (piece o : ℕ) : Type 0 where
  pub table_key : after.table_key ≡ before.table_key
  pub lists : KeepsLists before after
  pub alone : after.alone ≡ before.alone
  pub words : after.words
      ≡ slice_set before.words
      ((shape_of before.table_key).pieces + ((shape_of before.table_key).start piece + o))
      (cell before.table_key ((shape_of before.table_key).start piece + o))

-- each piece that is done has its defined cells
abbrev pub DoneHaveCells : Receipt → Type 0
DoneHaveCells receipt = (i : ℕ) → i < (shape_of receipt.table_key).pieces
    → piece_word receipt.words i ≡ 2 → HasCells receipt i

-- the piece is done, and was added to those made alone if it was not done before; all other
-- pieces are as they were
pub record FinishesPiece (before after : Receipt) (piece : ℕ) : Type 0 where
  pub table_key : after.table_key ≡ before.table_key
  pub lists : KeepsLists before after
  pub done : piece_word after.words piece ≡ 2
  pub others : (i : ℕ) → i < (shape_of before.table_key).pieces → i ≢ piece
      → piece_word after.words i ≡ piece_word before.words i
  pub cells : DoneHaveCells after
  pub alone : (i : ℕ) → times i after.alone
      ≡ times i before.alone + one_if ((i == piece) && not (piece_word before.words piece == 2))

-- the same of all pieces before number n
pub record FinishesTo (before after : Receipt) (n : ℕ) : Type 0 where
  pub table_key : after.table_key ≡ before.table_key
  pub lists : KeepsLists before after
  pub done : (i : ℕ) → i < n → piece_word after.words i ≡ 2
  pub others : (i : ℕ) → n ≤ i → i < (shape_of before.table_key).pieces
      → piece_word after.words i ≡ piece_word before.words i
  pub cells : DoneHaveCells after
  pub alone : (i : ℕ) → times i after.alone
      ≡ one_if (nat_lt i n && not (piece_word before.words i == 2))
