-- The rule in words of single views, and what all steps together are.
use Rattle.std.specs.Prelude.{◌≡◌, ℕ, ◌<◌, ◌≤◌, List, ◌∷◌, ◌++◌, Some, true}
use Rattle.atomic_table.specs.Table.{State}
use Rattle.band_core.specs.declared.event.Event.{Event}
use Rattle.band_core.specs.TableShapes.{Shape}
use Rattle.band_core.specs.Boards.{is_claimed, opening}
use Rattle.band_core.specs.Runs.{IsRun, played}
use Rattle.band_core.specs.Recipe.{recipe}
use Rattle.band_core.specs.TableWords.{board_of}
use Rattle.band_claims.specs.declared.table_key.TableKey.{TableKey}
use Rattle.band_claims.specs.declared.view.View.{View}
use Rattle.band_claims.specs.declared.view.Look.{Look}
use Rattle.band_claims.specs.Views.{look, times}
use Rattle.band_claims.specs.Kinds.{Kind, Happens, Leads, events_of, first_state}
use Rattle.band_claims.specs.Remembered.{Steps, Ends}
use Rattle.band_claims.specs.Rule.{Ruled, RuleOf, Sees, piece_word}
use Rattle.band_claims.specs.TableKeys.{shape_of, cell}

-- a claimed piece has a holder; who holds a piece finds it claimed; and two holders of one piece
-- are one view
abbrev pub StoredOnce : Type 0
StoredOnce = (k : Shape) (defined : ℕ → ℕ) (key : TableKey) (s : State (Unit {0}) View)
    → Ruled k defined key s → (i : ℕ) → i < k.pieces
    → (is_claimed (board_of k s.words) i ≡ true
    → (id : ℕ) × (v : View) × Sees s id v × (v.stored ≡ Some i))
    × ((id : ℕ) (v : View) → Sees s id v → v.stored ≡ Some i
    → is_claimed (board_of k s.words) i ≡ true)
    × ((id other : ℕ) (v w : View) → Sees s id v → Sees s other w → v.stored ≡ Some i
    → w.stored ≡ Some i → other ≡ id)

abbrev pub PublishedOnce : Type 0
PublishedOnce = (k : Shape) (defined : ℕ → ℕ) (key : TableKey) (s : State (Unit {0}) View)
    → Ruled k defined key s → (i : ℕ)
    → ((id : ℕ) (v : View) → Sees s id v → times i v.published ≤ 1)
    × ((id other : ℕ) (v w : View) → Sees s id v → Sees s other w → 1 ≤ times i v.published
    → 1 ≤ times i w.published → other ≡ id)

-- whatever steps were made from the table's opening on: the rule holds, their events are a run
-- of the core, and the words are the board that this run leads to
abbrev pub StepsAreRun : TableKey → Type 0
StepsAreRun key = (kinds : List Kind) (t : State (Unit {0}) View)
    → Leads (shape_of key) (cell key) (first_state (shape_of key) key) kinds t
    → RuleOf key t
    × IsRun (shape_of key) (recipe key.page.value key.layout) (opening (shape_of key))
    (events_of kinds)
    × (board_of (shape_of key) t.words ≡ played (opening (shape_of key)) (events_of kinds))

-- each kind of step keeps the rule
abbrev pub KeepsRule : TableKey → Type 0
KeepsRule key = (s t : State (Unit {0}) View) (kind : Kind) → RuleOf key s
    → Happens (shape_of key) (cell key) s kind t → RuleOf key t

-- words that steps ended at are the board that a run of the page leads to
abbrev pub EndsAreRuns : TableKey → Type 0
EndsAreRuns key = (words : List ℕ) (v : View) → Ends key words v → (events : List Event)
    × IsRun (shape_of key) (recipe key.page.value key.layout) (opening (shape_of key)) events
    × (board_of (shape_of key) words ≡ played (opening (shape_of key)) events)

-- what a look found was so then: a piece's word is no less later
abbrev pub LooksArePast : TableKey → Type 0
LooksArePast key = (kinds : List Kind) (t : State (Unit {0}) View) → Steps key kinds t
    → (id : ℕ) (v : View) → Sees t id v
    → (before after : List Look) (shown : Look) → v.looked ≡ before ++ shown ∷ after
    → shown.word ≤ piece_word t.words shown.piece

-- the looks that a seat tells of end what it was told
abbrev pub LooksAreReported : TableKey → Type 0
LooksAreReported key = (kinds : List Kind) (t : State (Unit {0}) View) → Steps key kinds t
    → (id : ℕ) (v : View) → Sees t id v
    → (earlier : List Look) × (v.reported ≡ earlier ++ v.looked)

-- of two words of one piece that a seat was told of the later one is no less
abbrev pub LooksRise : TableKey → Type 0
LooksRise key = (kinds : List Kind) (t : State (Unit {0}) View) → Steps key kinds t
    → (id : ℕ) (v : View) → Sees t id v
    → (before mid after : List Look) (shown later : Look)
    → v.reported ≡ before ++ shown ∷ (mid ++ later ∷ after) → later.piece ≡ shown.piece
    → shown.word ≤ later.word

-- a piece that the last pass published or saw done is done whenever it looks again
abbrev pub DoneStaysDone : TableKey → Type 0
DoneStaysDone key = (words : List ℕ) (v : View) → Ends key words v
    → (before mid after : List Look) (i n : ℕ)
    → v.reported ≡ before ++ look i 2 ∷ (mid ++ look i n ∷ after) → n ≡ 2
