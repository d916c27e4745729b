-- What is read of a rectangle of a plane. Rows and columns are counted from its upper left sample.
use Rattle.std.specs.Prelude.{◌≡◌, ℕ, ◌+◌, ◌*◌, ◌<◌, ◌≤◌, List, slice_index}
use Rattle.raster_samples.specs.declared.raster.Raster.{Raster}
use Rattle.raster_samples.specs.declared.raster.Rectangle.{Rectangle}
use Rattle.raster_samples.specs.Samples.{sample_at, tint_at}

-- A rectangle of a plane, with a sample or more.
pub record IsIn (r : Raster) (rect : Rectangle) : Type 0 where
  pub plane : rect.plane < r.planes.count
  pub wide : 1 ≤ rect.width
  pub across : rect.left + rect.width ≤ r.pixels.count
  pub down : rect.top + rect.height ≤ r.rows.count

-- the number in row y and column x of the rectangle
abbrev pub sample_of : Raster → List ℕ → Rectangle → ℕ → ℕ → ℕ
sample_of r bytes rect y x = sample_at r bytes rect.plane (rect.top + y) (rect.left + x)

-- the tint there
abbrev pub tint_of : Raster → List ℕ → Rectangle → ℕ → ℕ → ℕ
tint_of r bytes rect y x = tint_at r bytes rect.plane (rect.top + y) (rect.left + x)

-- The first rows of the rectangle, as tints one after the other.
abbrev pub AreTints : Raster → List ℕ → Rectangle → ℕ → List ℕ → Type 0
AreTints r bytes rect rows tints = (y x : ℕ) → y < rows → x < rect.width
    → slice_index tints (y * rect.width + x) ≡ tint_of r bytes rect y x

-- Such tints, of numbers up to the maxval.
pub record AreRead (r : Raster) (bytes : List ℕ) (rect : Rectangle) (rows : ℕ) (tints : List ℕ)
    : Type 0 where
  pub tint : AreTints r bytes rect rows tints
  pub fit : (y x : ℕ) → y < rows → x < rect.width → sample_of r bytes rect y x ≤ r.maxval

-- The first number of the rectangle above the maxval is in row y and column x.
pub record IsFirstAbove (r : Raster) (bytes : List ℕ) (rect : Rectangle) (y x : ℕ) : Type 0 where
  pub row : y < rect.height
  pub column : x < rect.width
  pub above : r.maxval < sample_of r bytes rect y x
  pub rows : (z w : ℕ) → z < y → w < rect.width → sample_of r bytes rect z w ≤ r.maxval
  pub columns : (w : ℕ) → w < x → sample_of r bytes rect y w ≤ r.maxval
