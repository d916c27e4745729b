-- When a piece is accounted for in a pass.
use Rattle.std.specs.Prelude.{◌≡◌, ◌⊎◌, ℕ, List, [], ◌∷◌, ◌++◌, None}
use Rattle.page_model.specs.declared.bands.Bands.{Bands}
use Rattle.band_claims.specs.declared.view.View.{View}
use Rattle.band_claims.specs.declared.view.Look.{Look}
use Rattle.band_claims.specs.Views.{Knows, Error}

-- a look shows a need of the piece that is not done, or the piece itself not free
pub record Shows (bands : Bands) (v : View) (piece : ℕ) : Type 0 where
  pub before : List Look
  pub shown : Look
  pub after : List Look
  pub stands : v.looked ≡ before ++ shown ∷ after
  pub reason : Error bands piece shown

-- the pass published the piece or saw it done, or shows why not
abbrev pub IsAccounted : Bands → View → ℕ → Type 0
IsAccounted bands v piece = Knows v piece ⊎ Shows bands v piece

-- the pieces published by v are the first ones published by w
abbrev pub Publishes : View → View → Type 0
Publishes v w = (more : List ℕ) × (w.published ≡ v.published ++ more)

-- the words that v was told are the first ones that w was told
abbrev pub Recalls : View → View → Type 0
Recalls v w = (more : List Look) × (w.reported ≡ v.reported ++ more)

-- what a piece that was made leaves
pub record Made (piece : ℕ) (v w : View) : Type 0 where
  pub idle : w.stored ≡ None
  pub published : w.published ≡ v.published ++ piece ∷ []
  pub reported : Recalls v w
  pub share : w.share ≡ v.share
