-- The check of a raster before it is read or written.
use Rattle.std.specs.Prelude.{◌≡◌, ℕ, ◌+◌, ◌-◌, ◌*◌, ◌≤◌, Bool, true, ◌==◌, ◌&&◌, ◌||◌, nat_le}
use Rattle.std.specs.Prelude.{if◌then◌else◌, Option, Some, None, ◌⊎◌}
use Rattle.raster_samples.specs.declared.raster.Access.{Access}
use Rattle.raster_samples.specs.declared.raster.Access.TheVariants.{Read, Write}
use Rattle.raster_samples.specs.declared.raster.Axis.{Axis}
use Rattle.raster_samples.specs.declared.raster.Raster.{Raster}
use Rattle.raster_samples.specs.declared.raster.RasterFault.{RasterFault}
use Rattle.raster_samples.specs.declared.raster.RasterFault.TheVariants.{SampleSize, Maxval, Strides, Extent}
use Rattle.raster_samples.specs.Places.{ahead, behind}
use Rattle.raster_samples.specs.Strides.{step}

-- samples of one byte or of two
abbrev pub is_size : ℕ → Bool
is_size size = size == 1 || size == 2

-- the greatest number in so many bytes
abbrev pub most : ℕ → ℕ
most size = if size == 1 then 255 else 65535

-- a maxval from 1 on that a sample holds
abbrev pub is_maxval : ℕ → ℕ → Bool
is_maxval size maxval = nat_le 1 maxval && nat_le maxval (most size)

-- from the first sample of an axis to its last
abbrev pub reach : Axis → ℕ
reach axis = (axis.count - 1) * step axis.stride

-- the samples of an axis are so many bytes apart, or there is one alone
abbrev pub clears : Axis → ℕ → Bool
clears axis span = nat_le axis.count 1 || nat_le span (step axis.stride)

-- three axes in the order of their strides: each step is at least the span of the axes before it
abbrev pub are_nested : ℕ → Axis → Axis → Axis → Bool
are_nested size a b c =
    clears a size && (clears b (size + reach a) && clears c (size + reach a + reach b))

-- in some order the axes are nested
abbrev pub are_apart : Raster → Bool
are_apart r =
    are_nested r.sample_size r.pixels r.rows r.planes
    || (are_nested r.sample_size r.pixels r.planes r.rows
    || (are_nested r.sample_size r.planes r.pixels r.rows
    || (are_nested r.sample_size r.planes r.rows r.pixels
    || (are_nested r.sample_size r.rows r.pixels r.planes
    || are_nested r.sample_size r.rows r.planes r.pixels))))

-- the last samples of each axis, forward and back of the origin, lie in so many bytes
abbrev pub are_inside : Raster → ℕ → Bool
are_inside r total =
    nat_le (behind r (r.planes.count - 1) (r.rows.count - 1) (r.pixels.count - 1)) r.origin
    && nat_le (r.origin + ahead r (r.planes.count - 1) (r.rows.count - 1) (r.pixels.count - 1)
    + r.sample_size) total

-- samples that are read may overlap; samples that are written may not
abbrev pub may_be : Access → Raster → Bool
may_be Read r = true
may_be Write r = are_apart r

-- the first fault of a raster in a memory of so many bytes
abbrev pub raster_fault : Access → Raster → ℕ → Option RasterFault
raster_fault access r total =
    if is_size r.sample_size then
    (if is_maxval r.sample_size r.maxval then
    (if may_be access r then
    (if are_inside r total then None
    else Some Extent) else Some Strides) else Some Maxval) else Some SampleSize

-- A raster whose samples lie in a memory of so many bytes.
pub record IsRaster (r : Raster) (total : ℕ) : Type 0 where
  pub sized : (r.sample_size ≡ 1) ⊎ (r.sample_size ≡ 2)
  pub some : 1 ≤ r.maxval
  pub deep : r.maxval ≤ most r.sample_size
  pub low : behind r (r.planes.count - 1) (r.rows.count - 1) (r.pixels.count - 1) ≤ r.origin
  pub high : r.origin + ahead r (r.planes.count - 1) (r.rows.count - 1) (r.pixels.count - 1)
      + r.sample_size ≤ total
