-- What a pass carries in its fields while it holds a piece.
use Rattle.std.proofs.Common.{◌≡◌, ℕ, ◌<◌, Some}
use Rattle.std.specs.Prelude.{MatchOption}
use Rattle.band_claims.specs.declared.table_key.TableKey.{TableKey}
use Rattle.band_claims.specs.declared.view.View.{View}
use Rattle.band_claims.specs.TableKeys.{shape_of}
use Rattle.band_claims.specs.Seating.{Carries, word_of}

-- what the fields say while a piece is held
pub record Carried (key : TableKey) (v : View) (i piece next : ℕ) : Type 0 where
  pub same : piece ≡ i
  pub in_range : i < (shape_of key).pieces
  pub word : next ≡ word_of (shape_of key) i v.filled

pub carried : (key : TableKey) (v : View) (i piece next : ℕ) → v.stored ≡ Some i → v.table_key ≡ Some key → Carries v piece next → Carried key v i piece next
carried key v i piece next stored page h =
    let parts : (piece ≡ i) × MatchOption v.table_key (Unit {0}) (λ k. (i < (shape_of k).pieces) × (next ≡ word_of (shape_of k) i v.filled)) = rw stored at h in
    let more : (i < (shape_of key).pieces) × (next ≡ word_of (shape_of key) i v.filled) = rw page at parts.1 in
    record { same = parts.0; in_range = more.0; word = more.1 }
