-- The words of a table, read as a board: first a word for each piece, 0 free, 1 claimed and 2
-- done, and then the cells.
use Rattle.std.specs.Prelude.{◌≡◌, ℕ, zero, suc, ◌+◌, ◌<◌, ◌≤◌, List, length, slice_index}
use Rattle.std.specs.Prelude.{slice_set}
use Rattle.lists.specs.Words.{list_below}
use Rattle.band_core.specs.declared.event.Event.{Event}
use Rattle.band_core.specs.declared.event.Event.TheVariants.{Claim, Put, Done}
use Rattle.band_core.specs.declared.state.State.{State}
use Rattle.band_core.specs.declared.state.State.TheVariants.{Free, Claimed, Done as IsDone}
use Rattle.band_core.specs.TableShapes.{Shape}
use Rattle.band_core.specs.Boards.{Board}

-- a word for each piece and cell, and no piece's word above 2
pub record AreWords (k : Shape) (words : List ℕ) : Type 0 where
  pub wide : length words ≡ k.pieces + k.cells
  pub states : (i : ℕ) → i < k.pieces → slice_index words i ≤ 2

abbrev pub state_of : ℕ → State
state_of zero = Free
state_of (suc zero) = Claimed
state_of (suc (suc n)) = IsDone

abbrev pub board_of : Shape → List ℕ → Board
board_of k words =
    record {
      states = list_below (λ i. state_of (slice_index words i)) k.pieces;
      cells = list_below (λ j. slice_index words (k.pieces + j)) k.cells;
    }

-- the words with an event's one change
abbrev pub rewritten : Shape → List ℕ → Event → List ℕ
rewritten k words (Claim i) = slice_set words i 1
rewritten k words (Put j v) = slice_set words (k.pieces + j) v
rewritten k words (Done i) = slice_set words i 2
