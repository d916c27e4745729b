-- How a row of tints is lowered by the tints that are offered to its columns.
use Rattle.std.specs.Prelude.{◌≡◌, ℕ, ◌+◌, ◌-◌, ◌*◌, ◌<◌, ◌≤◌, ◌⊎◌, true, List, length, replicate, slice_index}
use Rattle.lists.specs.Words.{gap}
use Rattle.draw_back.specs.declared.window.Window.{Window}
use Rattle.draw_back.specs.Drawn.{Scene, is_source}
use Rattle.draw_back.specs.Fields.{Lists, entry}

-- in the columns from..to the row is lowered to the least tint that is offered there, and all else
-- is as it was
pub record Lowers (old new : List ℕ) (from to : ℕ) (offers : ℕ → ℕ → Type 0) : Type 0 where
  pub before : (x : ℕ) → x < from → slice_index new x ≡ slice_index old x
  pub past : (x : ℕ) → to ≤ x → slice_index new x ≡ slice_index old x
  pub less : (x : ℕ) → slice_index new x ≤ slice_index old x
  pub each : (x v : ℕ) → from ≤ x → x < to → offers x v → slice_index new x ≤ v
  pub greatest : (x b : ℕ) → b ≤ slice_index old x → ((v : ℕ) → offers x v → b ≤ v)
      → b ≤ slice_index new x

-- v is the tint of a row in the column of place i of a window, if it is not covered
pub record IsOfPlace (tints marks : List ℕ) (from halo i v : ℕ) : Type 0 where
  pub column : ℕ
  pub there : column + halo ≡ from + i
  pub inside : column < length tints
  pub free : slice_index marks column ≡ 0
  pub is : v ≡ slice_index tints column

-- v is such a tint of one of these rows
pub record IsOfRows (lists : Lists) (from halo : ℕ) (is_row : ℕ → Type 0) (i v : ℕ) : Type 0 where
  pub column : ℕ
  pub row : ℕ
  pub there : column + halo ≡ from + i
  pub inside : column < lists.wide
  pub on_page : row < lists.tall
  pub in_rows : is_row row
  pub free : entry lists.marks lists.wide column row ≡ 0
  pub is : v ≡ entry lists.tints lists.wide column row

-- v is what a window has so many columns to the left or to the right of column x
pub record IsOfSide (best : List ℕ) (from halo step x v : ℕ) : Type 0 where
  pub place : ℕ
  pub there : (place + from + step ≡ x + halo) ⊎ (place + from ≡ x + halo + step)
  pub is : v ≡ slice_index best place

-- how many places a window has
abbrev pub places_of : Window → ℕ
places_of window = window.to - window.from + 2 * window.halo

-- a window has for each of its columns the least tint of the rows fewer than `grown` away from row y
-- that is not covered, and the greatest number of 16 bits where there is none
pub record IsGrown (lists : Lists) (window : Window) (y grown : ℕ) (best : List ℕ) : Type 0 where
  pub long : length best ≡ 544
  pub lowers : Lowers (replicate 544 65535) best 0 (places_of window)
      (IsOfRows lists window.from window.halo (λ k. gap y k < grown))

-- v is the tint of a source of the pixel in column x of row y, at least so many columns away
pub record IsOfFar (s : Scene) (y step x v : ℕ) : Type 0 where
  pub column : ℕ
  pub row : ℕ
  pub inside : column < s.wide
  pub on_page : row < s.tall
  pub away : step ≤ gap x column
  pub source : is_source s x y column row ≡ true
  pub is : v ≡ s.tint_at column row

-- v is the tint of a source of the pixel in column x of row y, in a row above row k
pub record IsOfSource (s : Scene) (y k x v : ℕ) : Type 0 where
  pub column : ℕ
  pub row : ℕ
  pub inside : column < s.wide
  pub above : row < k
  pub source : is_source s x y column row ≡ true
  pub is : v ≡ s.tint_at column row
