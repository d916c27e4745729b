-- The numbers in a raster, and the tints that they stand for.
use Rattle.std.specs.Prelude.{ℕ, ◌+◌, ◌-◌, ◌*◌, ◌==◌, nat_le, if◌then◌else◌, List, slice_index}
use Rattle.raster_samples.specs.declared.raster.Raster.{Raster}
use Rattle.raster_samples.specs.declared.raster.Zero.{Zero}
use Rattle.raster_samples.specs.declared.raster.Zero.TheVariants.{Paper, Ink}
use Rattle.raster_samples.specs.Places.{begins}

-- the number in one byte from k on, or in two, the lower one first
abbrev pub number_at : ℕ → List ℕ → ℕ → ℕ
number_at size bytes k =
    slice_index bytes k + (if size == 1 then 0 else 256 * slice_index bytes (k + 1))

-- the number in sample (c, y, x)
abbrev pub sample_at : Raster → List ℕ → ℕ → ℕ → ℕ → ℕ
sample_at r bytes c y x = number_at r.sample_size bytes (begins r c y x)

-- a tint as a number, and a number as a tint: the same, or turned round. A number above the maxval
-- stays, and so is above it as a tint too
abbrev pub turned : Zero → ℕ → ℕ → ℕ
turned Paper maxval n = n
turned Ink maxval n = if nat_le n maxval then maxval - n else n

-- the tint in sample (c, y, x)
abbrev pub tint_at : Raster → List ℕ → ℕ → ℕ → ℕ → ℕ
tint_at r bytes c y x = turned r.zero r.maxval (sample_at r bytes c y x)
