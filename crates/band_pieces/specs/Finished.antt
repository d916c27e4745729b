-- A closed table of a page on which all work is done.
use Rattle.std.specs.Prelude.{◌≡◌, ◌≢◌, None, ℕ, ◌+◌, ◌<◌, ◌==◌, ◌&&◌, not, nat_lt, List}
use Rattle.atomic_table.specs.Table.{State}
use Rattle.page_model.specs.declared.parts.PageParts.{PageParts}
use Rattle.band_claims.specs.declared.view.View.{View}
use Rattle.band_claims.specs.Kinds.{Kind}
use Rattle.band_claims.specs.Receipt.{Receipt}
use Rattle.band_claims.specs.Remembered.{Steps}
use Rattle.band_claims.specs.Rule.{Sees, cell_word, piece_word}
use Rattle.band_claims.specs.TableKeys.{cell, shape_of, IsFit}
use Rattle.band_claims.specs.Views.{one_if, times}
use Rattle.band_claims.specs.Accounts.{IsAccounted}

-- The table as the passes left it: steps of the eight kinds led there from its opening, to the
-- words that the receipt keeps, what the receipt tells of the last pass is what a seat knew then,
-- which held nothing, no piece was claimed and not done, and made alone were just the pieces that
-- were not done.
pub record WasLeft (receipt : Receipt) : Type 0 where
  pub kinds : List Kind
  pub left : State (Unit {0}) View
  pub steps : Steps receipt.table_key kinds left
  pub words : left.words ≡ receipt.left
  pub seat : ℕ
  pub view : View
  pub sees : Sees left seat view
  pub published : view.published ≡ receipt.published
  pub seen : view.seen ≡ receipt.seen
  pub looked : view.looked ≡ receipt.looked
  pub reported : view.reported ≡ receipt.reported
  pub idle : view.stored ≡ None
  pub settled : (i : ℕ) → i < (shape_of receipt.table_key).pieces → piece_word receipt.left i ≢ 1
  pub alone : (i : ℕ) → times i receipt.alone
      ≡ one_if (nat_lt i (shape_of receipt.table_key).pieces && not (piece_word receipt.left i == 2))

-- Every piece is done and every cell is the defined one, of that page; each piece was made once,
-- by a pass that published it or alone; each piece is accounted for; and the passes' part was a
-- run.
pub record IsFinished (page : PageParts) (receipt : Receipt) : Type 0 where
  pub fit : IsFit receipt.table_key
  pub same_page : receipt.table_key.page.value ≡ page
  pub done : (i : ℕ) → i < (shape_of receipt.table_key).pieces → piece_word receipt.words i ≡ 2
  pub cells : (j : ℕ) → j < (shape_of receipt.table_key).cells
      → cell_word (shape_of receipt.table_key) receipt.words j ≡ cell receipt.table_key j
  pub once : (i : ℕ) → times i receipt.published + times i receipt.alone
      ≡ one_if (nat_lt i (shape_of receipt.table_key).pieces)
  pub run : WasLeft receipt
  pub accounted : (i : ℕ) → i < (shape_of receipt.table_key).pieces
      → IsAccounted receipt.table_key.layout.bands run.view i
