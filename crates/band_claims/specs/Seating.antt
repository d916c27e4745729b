-- What contracts see of a pass and of a table.
use Rattle.std.specs.Prelude.{◌≡◌, ℕ, ◌+◌, ◌<◌, List, Some, MatchOption, replicate}
use Rattle.atomic_table.specs.Seated.{TableId}
use Rattle.band_claims.specs.declared.table_key.TableKey.{TableKey}
use Rattle.band_claims.specs.declared.view.View.{View}
use Rattle.band_core.specs.TableShapes.{Shape}
use Rattle.band_claims.specs.TableKeys.{shape_of, IsFit}

-- the table that a pass steps on, and what it knows
pub record Seating : Type 0 where
  pub table : TableId
  pub view : View

-- the number of the word of a piece's cell
abbrev pub word_of : Shape → ℕ → ℕ → ℕ
word_of k piece o = k.pieces + (k.start piece + o)

-- the pass carries the number of its piece and of the word that it fills next
abbrev pub Carries : View → ℕ → ℕ → Type 0
Carries v piece next = MatchOption v.stored (Unit {0})
    (λ i. (piece ≡ i) × MatchOption v.table_key (Unit {0})
    (λ key. (i < (shape_of key).pieces) × (next ≡ word_of (shape_of key) i v.filled)))

-- a table, and what it was given when it was made
pub record OpenTable : Type 0 where
  pub table : TableId
  pub table_key : TableKey
  -- how many marks there is memory for
  pub workspace : ℕ

-- the parts of a table fit one another
pub record IsOpenTable (words slots : ℕ) (key table_key : TableKey) (marks : List ℕ) : Type 0 where
  pub same_table_key : table_key ≡ key
  pub wide : words ≡ (shape_of key).pieces + (shape_of key).cells
  pub no_slots : slots ≡ 0
  pub fit : IsFit key
  pub no_marks : marks ≡ replicate (shape_of key).pieces 0

-- the pass is one of this table
pub record Seats (shared : OpenTable) (pass : Seating) : Type 0 where
  pub table : pass.table ≡ shared.table
  pub page : pass.view.table_key ≡ Some shared.table_key
