-- Samples of a row, each a step after the one before it.
use Rattle.std.specs.Prelude.{◌≡◌, ℕ, ◌+◌, ◌-◌, ◌*◌, ◌<◌, ◌≤◌, List, slice_index}
use Rattle.raster_samples.specs.declared.run.Run.{Run}
use Rattle.raster_samples.specs.declared.raster.Zero.{Zero}
use Rattle.raster_samples.specs.Samples.{number_at, turned}

-- where sample x begins
abbrev pub place : Run → ℕ → ℕ
place run x = (run.from + x * run.forward) - x * run.back

-- Each of so many samples lies in the memory.
abbrev pub IsRunIn : Run → ℕ → ℕ → ℕ → Type 0
IsRunIn run size count total = (x : ℕ) → x < count
    → (x * run.back ≤ run.from) × (run.from + x * run.forward + size ≤ total)

-- Byte k belongs to sample x.
pub record IsOf (run : Run) (size x k : ℕ) : Type 0 where
  pub from : place run x ≤ k
  pub to : k < place run x + size

-- No two of so many samples share a byte.
abbrev pub IsRunApart : Run → ℕ → ℕ → Type 0
IsRunApart run size count = (x w k : ℕ) → x < count → w < count
    → IsOf run size x k → IsOf run size w k → x ≡ w

-- The numbers of the samples.
abbrev pub AreNumbers : Run → ℕ → List ℕ → ℕ → List ℕ → Type 0
AreNumbers run size bytes count row =
    (x : ℕ) → x < count → slice_index row x ≡ number_at size bytes (place run x)

-- The first samples hold these tints, and each byte that belongs to none of them is as before.
pub record IsRunPut (run : Run) (size : ℕ) (zero : Zero) (maxval : ℕ) (row : List ℕ) (count : ℕ)
    (before after : List ℕ) : Type 0 where
  pub numbers : (x : ℕ) → x < count
      → number_at size after (place run x) ≡ turned zero maxval (slice_index row x)
  pub others : (k : ℕ) → ((x : ℕ) → x < count → ¬ IsOf run size x k)
      → slice_index after k ≡ slice_index before k
