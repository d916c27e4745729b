-- The rule in the form in which the steps keep it: in words, and view by view.
use Rattle.std.proofs.Common.{◌≡◌, ◌≢◌, ℕ, ◌+◌, ◌<◌, ◌≤◌, ◌==◌, List, [], None, length}
use Rattle.std.specs.Prelude.{MatchOption}
use mathlib.Core.Option.{some}
use lib.ListN.{get_elem?}
use Rattle.atomic_table.specs.Table.{State}
use Rattle.band_core.specs.TableShapes.{Shape}
use Rattle.band_core.specs.TableWords.{board_of}
use Rattle.band_core.specs.Runs.{Sound}
use Rattle.band_claims.specs.declared.table_key.TableKey.{TableKey}
use Rattle.band_claims.specs.declared.view.View.{View}
use Rattle.band_claims.specs.Rule.{piece_word, cell_word, AreOneWhole}
use Rattle.band_claims.specs.Views.{one_if, total, holds, publishes, Knows}

-- of piece i, which is claimed, the first cells are filled and the others are empty
pub record Holding (k : Shape) (words : List ℕ) (filled i : ℕ) : Type 0 where
  pub piece : i < k.pieces
  pub is_claimed : piece_word words i ≡ 1
  pub at_most : filled ≤ k.size i
  pub prefix : (o : ℕ) → o < filled → cell_word k words (k.start i + o) ≢ 0
  pub back : (o : ℕ) → filled ≤ o → o < k.size i → cell_word k words (k.start i + o) ≡ 0

-- what the words say of one view
pub record Sits (k : Shape) (key : TableKey) (words : List ℕ) (v : View) : Type 0 where
  pub page : MatchOption v.table_key (Unit {0}) (λ x. x ≡ key)
  pub hand : MatchOption v.stored (Unit {0}) (Holding k words v.filled)
  pub known : (i : ℕ) → Knows v i → (i < k.pieces) × (piece_word words i ≡ 2)
  pub unshared : length v.share ≡ 0 → (v.stored ≡ None) × (v.published ≡ [])

pub record Kept (k : Shape) (defined : ℕ → ℕ) (key : TableKey) (s : State (Unit {0}) View) : Type 0 where
  pub wide : length s.words ≡ k.pieces + k.cells
  pub states : (i : ℕ) → i < k.pieces → piece_word s.words i ≤ 2
  pub sound : Sound k defined (board_of k s.words)
  pub seats : (id : ℕ) (v : View) → get_elem? s.views id ≡ some v → Sits k key s.words v
  pub one_holder : (i : ℕ) → i < k.pieces → total (holds i) s.views ≡ one_if (piece_word s.words i == 1)
  pub once : (i : ℕ) → i < k.pieces → total (publishes i) s.views ≡ one_if (piece_word s.words i == 2)
  pub shares : AreOneWhole s.views
