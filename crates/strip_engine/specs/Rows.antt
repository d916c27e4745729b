-- Some rows out of a list that has as many items for each row.
use Rattle.std.specs.Prelude.{◌≡◌, ℕ, ◌+◌, ◌-◌, ◌*◌, ◌<◌, List, length, slice_index}

-- of a list with w items for each row, the rows `from` to `to`
pub record AreRows (w from to : ℕ) (all some : List ℕ) : Type 0 where
  pub long : length some ≡ (to - from) * w
  pub each : (k : ℕ) → k < (to - from) * w → slice_index some k ≡ slice_index all (from * w + k)
