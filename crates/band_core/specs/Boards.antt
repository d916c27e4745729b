-- A board: each piece's state and each cell's word; and what an event makes of it.
use Rattle.std.specs.Prelude.{◌≡◌, ℕ, ◌+◌, ◌<◌, Bool, true, false, ◌&&◌, not, nat_lt, nat_le, ◌==◌}
use Rattle.std.specs.Prelude.{List, length, slice_index, slice_index_or, slice_set, replicate}
use Rattle.std.specs.Prelude.{Option, Some, None, if◌then◌else◌}
use Rattle.lists.specs.Words.{any_below}
use Rattle.band_core.specs.declared.state.State.{State}
use Rattle.band_core.specs.declared.state.State.TheVariants.{Free, Claimed, Done as IsDone}
use Rattle.band_core.specs.declared.event.Event.{Event}
use Rattle.band_core.specs.declared.event.Event.TheVariants.{Claim, Put, Done}
use Rattle.band_core.specs.TableShapes.{Shape}

pub record Board : Type 0 where
  -- by their numbers
  pub states : List State
  pub cells : List ℕ

abbrev pub state_at : Board → ℕ → State
state_at board i = slice_index_or board.states i Free

abbrev pub cell_at : Board → ℕ → ℕ
cell_at board j = slice_index board.cells j

abbrev pub state_free : State → Bool
state_free Free = true
state_free Claimed = false
state_free IsDone = false

abbrev pub state_claimed : State → Bool
state_claimed Free = false
state_claimed Claimed = true
state_claimed IsDone = false

abbrev pub state_done : State → Bool
state_done Free = false
state_done Claimed = false
state_done IsDone = true

abbrev pub is_free : Board → ℕ → Bool
is_free board i = state_free (state_at board i)

abbrev pub is_claimed : Board → ℕ → Bool
is_claimed board i = state_claimed (state_at board i)

abbrev pub is_done : Board → ℕ → Bool
is_done board i = state_done (state_at board i)

-- some need of piece i is not done
unfoldable pub lacks_in : Shape → List State → ℕ → Bool
lacks_in k states i =
    any_below (λ n. k.needs i n && not (state_done (slice_index_or states n Free))) k.pieces

abbrev pub lacks : Shape → Board → ℕ → Bool
lacks k board i = lacks_in k board.states i

-- some cell of piece i is empty
unfoldable pub empty_in : Shape → List ℕ → ℕ → Bool
empty_in k cells i = any_below (λ o. slice_index cells (k.start i + o) == 0) (k.size i)

abbrev pub has_empty : Shape → Board → ℕ → Bool
has_empty k board i = empty_in k board.cells i

-- cell j is one of a claimed piece
unfoldable pub hand_in : Shape → List State → ℕ → Bool
hand_in k states j = any_below
    (λ i. state_claimed (slice_index_or states i Free)
    && (nat_le (k.start i) j && nat_lt j (k.start i + k.size i))) k.pieces

abbrev pub in_hand : Shape → Board → ℕ → Bool
in_hand k board j = hand_in k board.states j

abbrev pub set_state : Board → ℕ → State → Board
set_state board i state = record { states = slice_set board.states i state; cells = board.cells }

abbrev pub set_cell : Board → ℕ → ℕ → Board
set_cell board j v = record { states = board.states; cells = slice_set board.cells j v }

-- the event may happen
abbrev pub allowed : Shape → Board → Event → Bool
allowed k board (Claim i) = is_free board i && not (lacks k board i)
allowed k board (Put j v) = (cell_at board j == 0) && in_hand k board j
allowed k board (Done i) = is_claimed board i && not (has_empty k board i)

-- the board with the event's one change
abbrev pub changed : Board → Event → Board
changed board (Claim i) = set_state board i Claimed
changed board (Put j v) = set_cell board j v
changed board (Done i) = set_state board i IsDone

-- the board after the event, or nothing
abbrev pub after : Shape → Board → Event → Option Board
after k board event = if allowed k board event then Some (changed board event) else None

abbrev pub opening : Shape → Board
opening k = record { states = replicate k.pieces Free; cells = replicate k.cells 0 }

-- the numbers of an event are in range
abbrev pub InRange : Shape → Event → Type 0
InRange k (Claim i) = i < k.pieces
InRange k (Put j v) = j < k.cells
InRange k (Done i) = i < k.pieces

-- a board of this shape
pub record IsBoard (k : Shape) (board : Board) : Type 0 where
  pub states : length board.states ≡ k.pieces
  pub cells : length board.cells ≡ k.cells
