-- What a pass found that asked for all pieces.
use Rattle.std.specs.Prelude.{◌≡◌, ◌≢◌, ℕ, ◌<◌, List, [], ◌∷◌, ◌++◌}
use Rattle.band_claims.specs.declared.view.View.{View}
use Rattle.band_claims.specs.declared.view.Look.{Look}

-- w is v after some looks, the last of which found a piece that is not done
pub record FindsUndone (pieces : ℕ) (v w : View) : Type 0 where
  pub last : Look
  pub found : (more : List Look) × (w.looked ≡ v.looked ++ (more ++ last ∷ []))
  pub inside : last.piece < pieces
  pub undone : last.word ≢ 2
