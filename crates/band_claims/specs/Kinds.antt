-- The eight kinds of step of a table: when each is allowed, what it makes of the words and of
-- the views, and which event of the board it is.
use Rattle.std.specs.Prelude.{◌≡◌, ◌≢◌, ℕ, ◌+◌, ◌<◌, ◌≤◌, Bool, true, List, [], ◌∷◌, ◌++◌, Option}
use Rattle.std.specs.Prelude.{Some, None, length, slice_set, replicate}
use Rattle.atomic_table.specs.Table.{State, opening}
use Rattle.band_core.specs.declared.event.Event.{Event}
use Rattle.band_core.specs.declared.event.Event.TheVariants.{Claim, Put, Done}
use Rattle.band_core.specs.TableShapes.{Shape, Has}
use Rattle.band_claims.specs.declared.table_key.TableKey.{TableKey}
use Rattle.band_claims.specs.declared.view.View.{View}
use Rattle.band_claims.specs.Rule.{Sees, piece_word}
use Rattle.band_claims.specs.Views.{Knows, newcomer, looked_at, claimed, put, finished, parted}
use Rattle.band_claims.specs.Views.{branched, joined, spent}

-- seats, pieces and cells by their numbers; a seat comes first
pub data Kind : Type 0 where
  -- the word of a piece is loaded
  looks : ℕ → ℕ → Kind
  -- the word of a piece is exchanged from 0 to 1, or was found not to be 0
  wins : ℕ → ℕ → Kind
  loses : ℕ → ℕ → Kind
  -- the word of a cell is loaded
  reads : ℕ → ℕ → Kind
  -- a value is stored in a cell
  puts : ℕ → ℕ → ℕ → Kind
  -- 2 is stored in the word of a piece
  finishes : ℕ → ℕ → Kind
  -- the seat is split, so that the new one shares in the work or reads alone; or it takes in
  -- another
  splits : ℕ → Bool → Kind
  joins : ℕ → ℕ → Kind

-- the state with other words, and seat id with another view
abbrev pub moved : State (Unit {0}) View → ℕ → List ℕ → View → State (Unit {0}) View
moved s id words v = record { words = words; homes = s.homes; views = slice_set s.views id v }

-- the seat may claim the piece
pub record MayClaim (k : Shape) (s : State (Unit {0}) View) (id i : ℕ) (v : View) : Type 0 where
  pub sees : Sees s id v
  pub piece : i < k.pieces
  pub idle : v.stored ≡ None
  pub shares : 1 ≤ length v.share
  pub known : (n : ℕ) → k.needs i n ≡ true → Knows v n

-- it reads cells of a piece that it knows
pub record MayRead (k : Shape) (s : State (Unit {0}) View) (id j : ℕ) (v : View) : Type 0 where
  pub sees : Sees s id v
  pub piece : ℕ
  pub has : Has k piece j
  pub known : Knows v piece

-- it puts the defined value in the next cell of the piece that it holds
pub record MayPut (k : Shape) (defined : ℕ → ℕ) (s : State (Unit {0}) View) (id j value : ℕ)
    (v : View) : Type 0 where
  pub sees : Sees s id v
  pub piece : ℕ
  pub holding : v.stored ≡ Some piece
  pub workspace : v.filled < k.size piece
  pub next : j ≡ k.start piece + v.filled
  pub right : value ≡ defined j

-- it publishes the piece that it holds, whose cells it has all filled
pub record MayFinish (k : Shape) (s : State (Unit {0}) View) (id i : ℕ) (v : View) : Type 0 where
  pub sees : Sees s id v
  pub holding : v.stored ≡ Some i
  pub full : v.filled ≡ k.size i

-- two seats, which hold nothing, may become one
pub record MayJoin (s : State (Unit {0}) View) (id other : ℕ) (v w : View) : Type 0 where
  pub sees : Sees s id v
  pub other_sees : Sees s other w
  pub two : other ≢ id
  pub idle : v.stored ≡ None
  pub other_idle : w.stored ≡ None

-- a step of this kind leads from s to t
abbrev pub Happens : Shape → (ℕ → ℕ) → State (Unit {0}) View → Kind → State (Unit {0}) View → Type 0
Happens k defined s (looks id i) t = (v : View) × Sees s id v × (i < k.pieces)
    × (t ≡ moved s id s.words (looked_at i (piece_word s.words i) v))
Happens k defined s (wins id i) t = (v : View) × MayClaim k s id i v × (piece_word s.words i ≡ 0)
    × (t ≡ moved s id (slice_set s.words i 1) (claimed i 0 v))
Happens k defined s (loses id i) t = (v : View) × MayClaim k s id i v × (piece_word s.words i ≢ 0)
    × (t ≡ moved s id s.words (claimed i (piece_word s.words i) v))
Happens k defined s (reads id j) t = (v : View) × MayRead k s id j v × (t ≡ moved s id s.words v)
Happens k defined s (puts id j value) t = (v : View) × MayPut k defined s id j value v
    × (t ≡ moved s id (slice_set s.words (k.pieces + j) value) (put v))
Happens k defined s (finishes id i) t =
    (v : View) × MayFinish k s id i v × (t ≡ moved s id (slice_set s.words i 2) (finished i v))
Happens k defined s (splits id works) t = (v : View) × Sees s id v × (v.stored ≡ None)
    × (t ≡ record {
      words = s.words;
      homes = s.homes;
      views = slice_set s.views id (parted works v) ++ branched works v ∷ [];
    })
Happens k defined s (joins id other) t = (v : View) × (w : View) × MayJoin s id other v w
    × (t ≡ record {
      words = s.words;
      homes = s.homes;
      views = slice_set (slice_set s.views id (joined v w)) other spent;
    })

-- the event of the board that the step is
abbrev pub event_of : Kind → Option Event
event_of (looks id i) = None
event_of (wins id i) = Some (Claim i)
event_of (loses id i) = None
event_of (reads id j) = None
event_of (puts id j value) = Some (Put j value)
event_of (finishes id i) = Some (Done i)
event_of (splits id works) = None
event_of (joins id other) = None

-- steps, one after the other, lead from s to t
abbrev pub Leads : Shape → (ℕ → ℕ) → State (Unit {0}) View → List Kind → State (Unit {0}) View
    → Type 0
Leads k defined s [] t = t ≡ s
Leads k defined s (kind ∷ kinds) t =
    (m : State (Unit {0}) View) × Happens k defined s kind m × Leads k defined m kinds t

abbrev pub and_then : Option Event → List Event → List Event
and_then None events = events
and_then (Some event) events = event ∷ events

-- their events, in order
abbrev pub events_of : List Kind → List Event
events_of [] = []
events_of (kind ∷ kinds) = and_then (event_of kind) (events_of kinds)

-- the table when it is made
abbrev pub first_state : Shape → TableKey → State (Unit {0}) View
first_state k key = opening (replicate (k.pieces + k.cells) 0) [] (newcomer key)
