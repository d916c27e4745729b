-- The rule of the table. Its words are a board: first a word for each piece, 0 free, 1 claimed
-- and 2 done, and then the cells.
use Rattle.std.specs.Prelude.{◌≡◌, ◌≢◌, ℕ, ◌+◌, ◌<◌, ◌≤◌, true, List, [], length, slice_index, Some}
use Rattle.std.specs.Prelude.{None, MatchOption}
use mathlib.Core.Option.{some}
use lib.ListN.{get_elem?}
use Rattle.atomic_table.specs.Table.{State}
use Rattle.band_core.specs.TableShapes.{Shape}
use Rattle.band_core.specs.Boards.{Board, cell_at, is_claimed, is_done}
use Rattle.band_core.specs.TableWords.{AreWords, board_of}
use Rattle.band_core.specs.Runs.{Sound}
use Rattle.band_claims.specs.declared.table_key.TableKey.{TableKey}
use Rattle.band_claims.specs.declared.view.View.{View}
use Rattle.band_claims.specs.TableKeys.{shape_of, cell}
use Rattle.band_claims.specs.Shares.{power, parts_of, IsCutBy}
use Rattle.band_claims.specs.Views.{one_if, total, holds, publishes, Knows}

abbrev pub piece_word : List ℕ → ℕ → ℕ
piece_word words i = slice_index words i

abbrev pub cell_word : Shape → List ℕ → ℕ → ℕ
cell_word k words j = slice_index words (k.pieces + j)

-- seat id has the view v
abbrev pub Sees : State (Unit {0}) View → ℕ → View → Type 0
Sees s id v = get_elem? s.views id ≡ some v

-- of piece i the first cells, n of them, are filled and the others are empty
pub record FirstFilled (k : Shape) (board : Board) (i n : ℕ) : Type 0 where
  pub piece : i < k.pieces
  pub at_most : n ≤ k.size i
  pub prefix : (o : ℕ) → o < n → cell_at board (k.start i + o) ≢ 0
  pub back : (o : ℕ) → n ≤ o → o < k.size i → cell_at board (k.start i + o) ≡ 0

abbrev pub parts : ℕ → View → ℕ
parts n v = parts_of n v.share

-- the shares of all views are together one whole
pub record AreOneWhole (views : List View) : Type 0 where
  pub halvings : ℕ
  pub cut : (id : ℕ) (v : View) → get_elem? views id ≡ some v → IsCutBy halvings v.share
  pub all : total (parts halvings) views ≡ power halvings

-- The rule, over any shape and any value of each cell. A view that is spent has no key; the
-- other clauses hold of it too.
pub record Ruled (k : Shape) (defined : ℕ → ℕ) (key : TableKey)
    (s : State (Unit {0}) View) : Type 0 where
  -- there is a word for each piece and cell, and a piece's word is 0, 1 or 2: free, claimed or done
  pub words : AreWords k s.words
  -- all views have one page and the same bands, and the board is sound for that page
  pub one_page : (id : ℕ) (v : View) → Sees s id v
      → MatchOption v.table_key (Unit {0}) (λ x. x ≡ key)
  pub sound : Sound k defined (board_of k s.words)
  -- of all views one holds a piece that is claimed, and none holds one that is not
  pub one_holder : (i : ℕ) → i < k.pieces
      → total (holds i) s.views ≡ one_if (is_claimed (board_of k s.words) i)
  -- of a held piece the first cells are filled, as many as its holder says, and the others are
  -- empty
  pub stored_filled : (id i : ℕ) (v : View) → Sees s id v → v.stored ≡ Some i
      → FirstFilled k (board_of k s.words) i v.filled
  -- a piece that is in a list of published or seen pieces is done
  pub known_done : (id i : ℕ) (v : View) → Sees s id v → Knows v i
      → (i < k.pieces) × (is_done (board_of k s.words) i ≡ true)
  -- in all lists of published pieces together a piece that is done stands once, and no other one
  pub once : (i : ℕ) → i < k.pieces
      → total (publishes i) s.views ≡ one_if (is_done (board_of k s.words) i)
  -- of the work each view has a share, and one that has none holds nothing and has published
  -- nothing
  pub shares : AreOneWhole s.views
  pub unshared : (id : ℕ) (v : View) → Sees s id v → length v.share ≡ 0
      → (v.stored ≡ None) × (v.published ≡ [])

-- the rule of the table of a page
abbrev pub RuleOf : TableKey → State (Unit {0}) View → Type 0
RuleOf key = Ruled (shape_of key) (cell key) key
