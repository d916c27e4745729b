-- Sound boards and runs, over any shape, any value of each cell, and any recipe.
use Rattle.std.specs.Prelude.{◌≡◌, ◌≢◌, ◌⊎◌, ℕ, ◌+◌, ◌<◌, ◌≤◌, true, false, ◌==◌, List, [], ◌∷◌}
use Rattle.std.specs.Prelude.{◌++◌, Some, if◌then◌else◌}
use Rattle.band_core.specs.declared.event.Event.{Event}
use Rattle.band_core.specs.declared.event.Event.TheVariants.{Claim, Put, Done}
use Rattle.band_core.specs.TableShapes.{Shape, Has}
use Rattle.band_core.specs.Boards.{Board, cell_at, is_free, is_done, after, allowed, changed}
use Rattle.band_core.specs.Boards.{opening, IsBoard, InRange}

-- a board is sound where each cell is empty or has its defined value, a done piece has no empty
-- cell and a free piece only such, and each need of a piece that is not free is done
pub record Sound (k : Shape) (defined : ℕ → ℕ) (board : Board) : Type 0 where
  pub whole : IsBoard k board
  pub cells : (j : ℕ) → j < k.cells → (cell_at board j ≡ 0) ⊎ (cell_at board j ≡ defined j)
  pub full : (i j : ℕ) → Has k i j → is_done board i ≡ true → cell_at board j ≢ 0
  pub empty : (i j : ℕ) → Has k i j → is_free board i ≡ true → cell_at board j ≡ 0
  pub ready : (i n : ℕ) → i < k.pieces → is_free board i ≡ false → k.needs i n ≡ true
      → is_done board n ≡ true

-- a value is put by the recipe over the board
abbrev pub ByRecipe : (Board → ℕ → ℕ) → Board → Event → Type 0
ByRecipe recipe board (Claim i) = Unit {0}
ByRecipe recipe board (Put j v) = v ≡ recipe board j
ByRecipe recipe board (Done i) = Unit {0}

-- a value is put that is its cell's defined one
abbrev pub ByDefinition : (ℕ → ℕ) → Event → Type 0
ByDefinition defined (Claim i) = Unit {0}
ByDefinition defined (Put j v) = v ≡ defined j
ByDefinition defined (Done i) = Unit {0}

-- one event of a run: it has a board after it, and a value is put by the recipe
pub record Step (k : Shape) (recipe : Board → ℕ → ℕ) (board : Board) (event : Event) : Type 0 where
  pub in_range : InRange k event
  pub by_recipe : ByRecipe recipe board event
  pub has_after : after k board event ≡ Some (changed board event)

-- the board after all the events
abbrev pub played : Board → List Event → Board
played board [] = board
played board (event ∷ events) = played (changed board event) events

-- a run from a board
abbrev pub IsRun : Shape → (Board → ℕ → ℕ) → Board → List Event → Type 0
IsRun k recipe board [] = Unit {0}
IsRun k recipe board (event ∷ events) =
    Step k recipe board event × IsRun k recipe (changed board event) events

-- how often piece i is made done
abbrev pub done_by : ℕ → Event → ℕ
done_by i (Claim n) = 0
done_by i (Put j v) = 0
done_by i (Done n) = if i == n then 1 else 0

abbrev pub times_done : ℕ → List Event → ℕ
times_done i [] = 0
times_done i (event ∷ events) = done_by i event + times_done i events

-- how often piece i is claimed
abbrev pub claimed_by : ℕ → Event → ℕ
claimed_by i (Claim n) = if i == n then 1 else 0
claimed_by i (Put j v) = 0
claimed_by i (Done n) = 0

abbrev pub times_claimed : ℕ → List Event → ℕ
times_claimed i [] = 0
times_claimed i (event ∷ events) = claimed_by i event + times_claimed i events

-- over every run each board is sound, no cell changes once it is not 0, and no piece is claimed
-- twice or done twice
pub record RunLaw (k : Shape) (defined : ℕ → ℕ) (recipe : Board → ℕ → ℕ) : Type 0 where
  pub sound : (early late : List Event) → IsRun k recipe (opening k) (early ++ late)
      → Sound k defined (played (opening k) early)
  pub stays : (early late : List Event) → IsRun k recipe (opening k) (early ++ late) → (j : ℕ)
      → cell_at (played (opening k) early) j ≢ 0
      → cell_at (played (opening k) (early ++ late)) j ≡ cell_at (played (opening k) early) j
  pub claimed : (events : List Event) → IsRun k recipe (opening k) events → (i : ℕ)
      → times_claimed i events ≤ 1
  pub once : (events : List Event) → IsRun k recipe (opening k) events → (i : ℕ)
      → times_done i events ≤ 1

-- the recipe gives each cell's defined value, where the needs of its piece are done
abbrev pub Halo : Shape → (ℕ → ℕ) → (Board → ℕ → ℕ) → Type 0
Halo k defined recipe = (board : Board) → Sound k defined board → (i j : ℕ) → Has k i j
    → ((n : ℕ) → k.needs i n ≡ true → is_done board n ≡ true) → recipe board j ≡ defined j

-- an event that may happen, its value the defined one, keeps a sound board sound
abbrev pub KeepsSound : Shape → (ℕ → ℕ) → Type 0
KeepsSound k defined = (board : Board) → Sound k defined board → (event : Event) → InRange k event
    → ByDefinition defined event → allowed k board event ≡ true
    → Sound k defined (changed board event)
