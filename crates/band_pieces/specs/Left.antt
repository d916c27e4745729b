-- What the receipt's run says of the work that the passes left.
use Rattle.std.specs.Prelude.{◌≡◌, ◌≢◌, ℕ, ◌<◌, ◌≤◌, List, ◌∷◌, ◌++◌, true}
use Rattle.page_model.specs.declared.parts.PageParts.{PageParts}
use Rattle.band_core.specs.Needs.{is_need}
use Rattle.band_claims.specs.declared.view.Look.{Look}
use Rattle.band_claims.specs.Receipt.{Receipt}
use Rattle.band_claims.specs.Rule.{piece_word}
use Rattle.band_claims.specs.TableKeys.{shape_of}
use Rattle.band_pieces.specs.Finished.{IsFinished}

-- the last pass tells of a look that found a need of the piece not done
pub record FoundUndone (receipt : Receipt) (piece : ℕ) : Type 0 where
  pub before : List Look
  pub shown : Look
  pub after : List Look
  pub stands : receipt.looked ≡ before ++ shown ∷ after
  pub need : is_need receipt.table_key.layout.bands piece shown.piece ≡ true
  pub not_done : shown.word ≢ 2

-- of a piece that no pass had published when the table was closed, a need was found not done
abbrev pub LeftForNeeds : Type 0
LeftForNeeds = (page : PageParts) (receipt : Receipt) → (f : IsFinished page receipt) → (i : ℕ)
    → i < (shape_of receipt.table_key).pieces → piece_word receipt.left i ≢ 2
    → FoundUndone receipt i

-- so each piece that needs no other was published by a pass
abbrev pub FirstAreDone : Type 0
FirstAreDone = (page : PageParts) (receipt : Receipt) → (f : IsFinished page receipt) → (i : ℕ)
    → i < (shape_of receipt.table_key).pieces
    → ((n : ℕ) → is_need receipt.table_key.layout.bands i n ≢ true)
    → piece_word receipt.left i ≡ 2

-- the looks that a receipt tells of end what its last pass was told, in which of two words of
-- one piece the later one is no less
pub record TellsTruly (receipt : Receipt) : Type 0 where
  pub earlier : List Look
  pub looks : receipt.reported ≡ earlier ++ receipt.looked
  pub rise : (before mid after : List Look) (shown later : Look)
      → receipt.reported ≡ before ++ shown ∷ (mid ++ later ∷ after) → later.piece ≡ shown.piece
      → shown.word ≤ later.word

abbrev pub LooksAreReported : Type 0
LooksAreReported = (page : PageParts) (receipt : Receipt) → IsFinished page receipt → TellsTruly receipt
