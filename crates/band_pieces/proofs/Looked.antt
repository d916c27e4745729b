-- What one more look at a piece tells.
use Rattle.std.proofs.Common.{◌≡◌, ℕ, ◌+◌, ◌<◌, inl, inr, arith}
use Rattle.std.proofs.lemmas.Bool.{cases_eq}
use Rattle.band_claims.specs.declared.view.View.{View}
use Rattle.band_claims.specs.Views.{Knows, looked_at}
use Rattle.band_claims.proofs.Looking.{knows_here, knows_more}

-- a piece that was looked at and found done is known, as the pieces before it are
pub known_before : (v : View) (j n : ℕ) → ((i : ℕ) → i < j → Knows v i) → n ≡ 2 → (i : ℕ) → i < j + 1 → Knows (looked_at j n v) i
known_before v j n known found i l = elim (cases_eq i j) [
  | inl q ↦ rw q (knows_here v j n found)
  | inr ne ↦ knows_more v j n i (known i (omega (arith, l, ne)))
]
