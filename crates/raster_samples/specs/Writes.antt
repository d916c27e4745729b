-- What is written to a rectangle of a plane.
use Rattle.std.specs.Prelude.{◌≡◌, ℕ, ◌+◌, ◌*◌, ◌<◌, List, slice_index}
use Rattle.raster_samples.specs.declared.raster.Raster.{Raster}
use Rattle.raster_samples.specs.declared.raster.Rectangle.{Rectangle}
use Rattle.raster_samples.specs.Places.{Holds}
use Rattle.raster_samples.specs.Reads.{tint_of}

-- The first rows of the rectangle have these tints, and each byte that belongs to none of their
-- samples is as before.
pub record AreWritten (r : Raster) (tints : List ℕ) (rect : Rectangle) (rows : ℕ)
    (before after : List ℕ) : Type 0 where
  pub tint : (y x : ℕ) → y < rows → x < rect.width
      → tint_of r after rect y x ≡ slice_index tints (y * rect.width + x)
  pub others : (k : ℕ) → ((y x : ℕ) → y < rows → x < rect.width
      → ¬ Holds r rect.plane (rect.top + y) (rect.left + x) k)
      → slice_index after k ≡ slice_index before k
