-- Steps that tell of a look that was not.
use Rattle.std.specs.Prelude.{◌≡◌, ℕ, ◌<◌, ◌≤◌, Bool, nat_lt, None, Some, length}
use Rattle.atomic_table.specs.Table.{Allows, Me}
use Rattle.band_claims.specs.declared.table_key.TableKey.{TableKey}
use Rattle.band_claims.specs.declared.view.View.{View}
use Rattle.band_claims.specs.Remembered.{Remembered}
use Rattle.band_claims.specs.TableKeys.{shape_of}
use Rattle.band_claims.specs.Views.{looked_at}

-- Whatever seat of the table that holds nothing loads the word of a piece, it may tell of the word
-- that `tells` makes of the one that it found. Such a seat takes part in the work and has a share
-- of it, or it reads alone and has none.
abbrev pub MayTell : TableKey → Bool → (ℕ → ℕ) → Type 0
MayTell key works tells = (id : ℕ) (me : Me (Unit {0}) View) (i : ℕ) → i < (shape_of key).pieces
    → me.0.table_key ≡ Some key → nat_lt 0 (length me.0.share) ≡ works → me.0.stored ≡ None
    → Allows (Remembered key) 0 id me i (λ n. n) (λ n m. m ≡ (looked_at i (tells n) me.0, me.1))

-- the same word whatever the one is that it found
abbrev pub MayForge : TableKey → Bool → ℕ → Type 0
MayForge key works word = MayTell key works (λ n. word)

-- only who tells of each word as it is may be told at all
abbrev pub LooksAreHonest : TableKey → Type 0
LooksAreHonest key = (works : Bool) (tells : ℕ → ℕ) → MayTell key works tells → (n : ℕ) → n ≤ 2
    → tells n ≡ n
