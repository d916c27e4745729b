-- What can be relied on of a pixel that is drawn back.
use Rattle.std.specs.Prelude.{◌≡◌, ℕ, ◌+◌, ◌<◌, ◌≤◌, ◌⊎◌, true}
use Rattle.draw_back.specs.Drawn.{Scene, IsDrawn, drawn, is_source}

-- a source of the pixel in column x of row y
pub record Source (s : Scene) (x y : ℕ) : Type 0 where
  pub column : ℕ
  pub row : ℕ
  pub in_row : column < s.wide
  pub on_page : row < s.tall
  pub source : is_source s x y column row ≡ true

-- the definition is the greatest number that is at most the pixel's own tint and that of each source,
-- and no other number is; it is the pixel's own tint or that of a source, and so never more than its
-- own
pub record DrawnLaw (s : Scene) (x y : ℕ) : Type 0 where
  pub is : IsDrawn s x y (drawn s x y)
  pub only : (v : ℕ) → IsDrawn s x y v → v ≡ drawn s x y
  pub stored : (drawn s x y ≡ s.tint_at x y)
      ⊎ ((at : Source s x y) × (drawn s x y ≡ s.tint_at at.column at.row))
  pub less : drawn s x y ≤ s.tint_at x y

-- the rows of the one scene are rows of the other, from row `first` on
pub record IsWindow (window sheet : Scene) (first : ℕ) : Type 0 where
  pub inside : first + window.tall ≤ sheet.tall
  pub wide : window.wide ≡ sheet.wide
  pub limit : window.limit ≡ sheet.limit
  pub free : (j k : ℕ) → j < window.wide → k < window.tall
      → window.is_free j k ≡ sheet.is_free j (first + k)
  pub tint : (j k : ℕ) → j < window.wide → k < window.tall
      → window.tint_at j k ≡ sheet.tint_at j (first + k)

-- row y of a window has its rows of so many above and below, as far as the sheet has rows there
pub record HasHalo (window sheet : Scene) (first radius y : ℕ) : Type 0 where
  pub row : y < window.tall
  pub above : (first ≡ 0) ⊎ (radius ≤ y)
  pub below : (first + window.tall ≡ sheet.tall) ⊎ (y + radius < window.tall)

-- a row of a window that has its halo is drawn back as it is on the sheet
abbrev pub WindowLaw : Scene → Scene → ℕ → ℕ → Type 0
WindowLaw window sheet first radius = (x y : ℕ) → x < window.wide
    → HasHalo window sheet first radius y → drawn window x y ≡ drawn sheet x (first + y)
