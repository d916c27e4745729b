-- What it means to write a text piece by piece, of which the last bytes are held back until there
-- are enough for a write.
use Rattle.std.specs.Prelude.{◌≡◌, ℕ, IsTrue, List, ◌++◌, take, Result, OnOk, OnErr}
use Rattle.outside.specs.ErrorCases.{Rose, RoseOnce}
use Rattle.outside.specs.Rack.{RackState, KeepsRack}
use Rattle.outside.specs.Writing.{Grows}

-- all of a text is written or held back, after what the open file had at the start, and no call
-- has failed since
pub record Holds (text stored : List ℕ) (start state : RackState) : Type 0 where
  pub tells : state.tells ≡ start.tells
  pub faults : state.faults ≡ start.faults
  pub asked : state.asked ≡ start.asked
  pub finished : state.finished ≡ start.finished
  pub reported : IsTrue start.tells → state.reported ≡ start.reported
  pub is_open : state.is_open ≡ start.is_open
  pub current : IsTrue start.tells → state.current ≡ start.current
  pub written : List ℕ
  pub whole : text ≡ written ++ stored
  pub files : IsTrue start.tells → Grows written start state

-- a prefix of the text was written, and then a call failed
pub record Breaks (text : List ℕ) (start state : RackState) : Type 0 where
  pub keeps : KeepsRack start state
  pub asked : state.asked ≡ start.asked
  pub finished : state.finished ≡ start.finished
  pub reported : IsTrue start.tells → state.reported ≡ start.reported
  pub is_open : state.is_open ≡ start.is_open
  pub part : IsTrue start.tells → (k : ℕ) × Grows (take k text) start state
  pub reason : Rose start.faults state.faults
  pub once : RoseOnce start.faults state.faults

-- the piece is put after any text that is held, or the rack fails within it
pub record Puts {T E : Type 0} (piece stored held2 : List ℕ) (before after : RackState)
    (result : Result T E) : Type 0 where
  pub well : OnOk result ((start : RackState) (text : List ℕ) → Holds text stored start before
      → Holds (text ++ piece) held2 start after)
  pub fault : OnErr result ((start : RackState) (text : List ℕ) → Holds text stored start before
      → Breaks (text ++ piece) start after)
  pub is_open : OnOk result (IsTrue after.is_open)
