-- Where the samples of a raster lie in memory.
use Rattle.std.specs.Prelude.{◌≡◌, ℕ, ◌+◌, ◌-◌, ◌*◌, ◌<◌, ◌≤◌}
use Rattle.raster_samples.specs.declared.raster.Raster.{Raster}
use Rattle.raster_samples.specs.Strides.{forward, backward}

-- the bytes from the origin forward to sample (c, y, x)
abbrev pub ahead : Raster → ℕ → ℕ → ℕ → ℕ
ahead r c y x =
    c * forward r.planes.stride + (y * forward r.rows.stride + x * forward r.pixels.stride)

-- the bytes from the origin back to it
abbrev pub behind : Raster → ℕ → ℕ → ℕ → ℕ
behind r c y x =
    c * backward r.planes.stride + (y * backward r.rows.stride + x * backward r.pixels.stride)

-- where sample x of row y of plane c begins: the origin, c times the plane's pitch, y times the
-- row's stride and x times the pixel's
abbrev pub begins : Raster → ℕ → ℕ → ℕ → ℕ
begins r c y x = (r.origin + ahead r c y x) - behind r c y x

-- The raster has a sample (c, y, x).
pub record IsAt (r : Raster) (c y x : ℕ) : Type 0 where
  pub plane : c < r.planes.count
  pub row : y < r.rows.count
  pub column : x < r.pixels.count

-- Sample (c, y, x) lies in a memory of so many bytes.
pub record Lies (r : Raster) (total c y x : ℕ) : Type 0 where
  pub low : behind r c y x ≤ r.origin + ahead r c y x
  pub high : begins r c y x + r.sample_size ≤ total

-- Byte k belongs to sample (c, y, x).
pub record Holds (r : Raster) (c y x k : ℕ) : Type 0 where
  pub from : begins r c y x ≤ k
  pub to : k < begins r c y x + r.sample_size

-- All samples lie in the memory.
abbrev pub AreInside : Raster → ℕ → Type 0
AreInside r total = (c y x : ℕ) → IsAt r c y x → Lies r total c y x

-- No two samples overlap: two that share a byte are one.
abbrev pub AreApart : Raster → Type 0
AreApart r = (c y x d z w k : ℕ) → IsAt r c y x → IsAt r d z w
    → Holds r c y x k → Holds r d z w k → (c ≡ d) × (y ≡ z) × (x ≡ w)
