-- The hull of arms that a row is read from: which arms stand in it, and up to where each holds.
use Rattle.std.specs.Prelude.{◌≡◌, ℕ, suc, ◌+◌, ◌-◌, ◌<◌, ◌≤◌, ◌↔◌, List, slice_index}
use Rattle.page_model.specs.Arms.{ArmModel, LeftHolds}
use Rattle.lists.specs.Words.{IsFirstLeast}
use Rattle.row_envelope.specs.Envelope.{arm_d2, every}

-- of the doubled coordinates up to last the left arm holds exactly those below the stop
pub record IsError (a b : ArmModel) (last error : ℕ) : Type 0 where
  pub within : error ≤ last + 1
  pub splits : (x2 : ℕ) → x2 ≤ last → LeftHolds a b x2 ↔ (x2 < error)

-- arm k is the nearest of the first n at x2
abbrev pub Wins : List ArmModel → ℕ → ℕ → ℕ → Type 0
Wins arms n x2 k = IsFirstLeast (arm_d2 arms x2) every n k

-- the hull's entry k has the coordinates from its own start to the next one's
pub record InEntry (starts : List ℕ) (stored last k x2 : ℕ) : Type 0 where
  pub at_start : slice_index starts k ≤ x2
  pub before_next : k + 1 < stored → x2 < slice_index starts (k + 1)
  pub fits : x2 ≤ last

-- the hull of the first n arms
pub record IsHull (arms : List ArmModel) (n last : ℕ) (places starts : List ℕ)
    (stored : ℕ) : Type 0 where
  pub few : stored ≤ n
  pub some : 0 < n → 0 < stored
  pub below : (k : ℕ) → k < stored → slice_index places k < n
  pub begin : 0 < stored → slice_index starts 0 ≡ 0
  pub ordered : (j k : ℕ) → j ≤ k → k < stored → slice_index starts j ≤ slice_index starts k
  pub fits : (k : ℕ) → k < stored → slice_index starts k ≤ last + 1
  pub wins : (k x2 : ℕ) → k < stored → InEntry starts stored last k x2
      → Wins arms n x2 (slice_index places k)

-- after the entries from `left` on were dropped, the new arm i begins at `from`
pub record IsSettled (arms : List ArmModel) (i last : ℕ) (places starts : List ℕ)
    (left from : ℕ) : Type 0 where
  pub within : from ≤ last + 1
  pub begin : left ≡ 0 → from ≡ 0
  pub later : 0 < left → slice_index starts (left - 1) ≤ from
  pub kept : (k x2 : ℕ) → k + 1 < left → InEntry starts left last k x2
      → Wins arms (suc i) x2 (slice_index places k)
  pub top : (x2 : ℕ) → 0 < left → slice_index starts (left - 1) ≤ x2 → x2 < from → x2 ≤ last
      → Wins arms (suc i) x2 (slice_index places (left - 1))
  pub new : (x2 : ℕ) → from ≤ x2 → x2 ≤ last → Wins arms (suc i) x2 i
