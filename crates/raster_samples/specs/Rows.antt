-- One row of a rectangle, read or written.
use Rattle.std.specs.Prelude.{◌≡◌, ℕ, ◌+◌, ◌<◌, ◌≤◌, List, length, slice_index}
use Rattle.raster_samples.specs.declared.raster.Raster.{Raster}
use Rattle.raster_samples.specs.declared.raster.Rectangle.{Rectangle}
use Rattle.raster_samples.specs.declared.raster.Zero.{Zero}
use Rattle.raster_samples.specs.Places.{Holds}
use Rattle.raster_samples.specs.Reads.{sample_of, tint_of}
use Rattle.raster_samples.specs.Samples.{turned}

-- Row y of the rectangle, as tints.
abbrev pub AreRowTints : Raster → List ℕ → Rectangle → ℕ → List ℕ → Type 0
AreRowTints r bytes rect y row =
    (x : ℕ) → x < rect.width → slice_index row x ≡ tint_of r bytes rect y x

-- Such a row, of numbers up to the maxval.
pub record IsRowRead (r : Raster) (bytes : List ℕ) (rect : Rectangle) (y : ℕ) (row : List ℕ)
    : Type 0 where
  pub tint : AreRowTints r bytes rect y row
  pub fit : (x : ℕ) → x < rect.width → sample_of r bytes rect y x ≤ r.maxval

-- The first number of row y that is above the maxval is in column x.
pub record IsFirstAboveIn (r : Raster) (bytes : List ℕ) (rect : Rectangle) (y x : ℕ) : Type 0 where
  pub column : x < rect.width
  pub above : r.maxval < sample_of r bytes rect y x
  pub columns : (w : ℕ) → w < x → sample_of r bytes rect y w ≤ r.maxval

-- Numbers as tints, or tints as numbers.
abbrev pub IsTurned : Zero → ℕ → List ℕ → List ℕ → Type 0
IsTurned zero maxval before after =
    (x : ℕ) → x < length before → slice_index after x ≡ turned zero maxval (slice_index before x)

-- Row y of the rectangle holds these tints, and each other byte is as before.
pub record IsRowWritten (r : Raster) (row : List ℕ) (rect : Rectangle) (y : ℕ)
    (before after : List ℕ) : Type 0 where
  pub tint : (x : ℕ) → x < rect.width → tint_of r after rect y x ≡ slice_index row x
  pub others : (k : ℕ)
      → ((x : ℕ) → x < rect.width → ¬ Holds r rect.plane (rect.top + y) (rect.left + x) k)
      → slice_index after k ≡ slice_index before k
