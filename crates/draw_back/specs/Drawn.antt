-- What an ink is drawn back to under a cover: the least of its tints near by where the cover has
-- ended.
use Rattle.std.specs.Prelude.{◌≡◌, ℕ, zero, suc, ◌+◌, ◌<◌, ◌≤◌, Bool, true, ◌&&◌, nat_le, min}
use Rattle.std.specs.Prelude.{if◌then◌else◌}
use Rattle.lists.specs.Words.{gap, square}

-- one ink under a cover: the sides of the page, by column and row where the cover has ended and the
-- ink's tint, and the greatest squared distance that is near
pub record Scene : Type 0 where
  pub wide : ℕ
  pub tall : ℕ
  pub is_free : ℕ → ℕ → Bool
  pub tint_at : ℕ → ℕ → ℕ
  pub limit : ℕ

-- the least of start and of those f k, k below n, whose k pass the test
abbrev pub least_below : (ℕ → Bool) → (ℕ → ℕ) → ℕ → ℕ → ℕ
least_below test f start zero = start
least_below test f start (suc n) =
    if test n then min (least_below test f start n) (f n) else least_below test f start n

-- the square of the distance between the middles of two pixels
abbrev pub distance2 : ℕ → ℕ → ℕ → ℕ → ℕ
distance2 x y j k = square (gap x j) + square (gap y k)

-- the pixel in column j of row k is near the one in column x of row y, and not covered
abbrev pub is_source : Scene → ℕ → ℕ → ℕ → ℕ → Bool
is_source s x y j k = s.is_free j k && nat_le (distance2 x y j k) s.limit

-- the least of the pixel's own tint and of those of the sources in row k
abbrev pub least_in_row : Scene → ℕ → ℕ → ℕ → ℕ
least_in_row s x y k =
    least_below (λ j. is_source s x y j k) (λ j. s.tint_at j k) (s.tint_at x y) s.wide

-- the tint that the pixel is drawn back to: the least of its own and of those of all sources
unfoldable pub drawn : Scene → ℕ → ℕ → ℕ
drawn s x y = least_below (λ k. true) (least_in_row s x y) (s.tint_at x y) s.tall

-- v is at most the pixel's own tint and that of each source, and no greater number is
pub record IsDrawn (s : Scene) (x y v : ℕ) : Type 0 where
  pub own : v ≤ s.tint_at x y
  pub each : (j k : ℕ) → j < s.wide → k < s.tall → is_source s x y j k ≡ true → v ≤ s.tint_at j k
  pub greatest : (b : ℕ) → b ≤ s.tint_at x y
      → ((j k : ℕ) → j < s.wide → k < s.tall → is_source s x y j k ≡ true → b ≤ s.tint_at j k)
      → b ≤ v
