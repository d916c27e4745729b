-- What a rack in memory is, and what its calls do.
use Rattle.std.specs.Prelude.{◌≡◌, ℕ, ◌+◌, ◌<◌, Bool, true, false, IsTrue, min, List, [], length}
use Rattle.std.specs.Prelude.{Option, Some, None, is_ok, is_err, not, Result, IfOk, OnOk, OnErr}
use Rattle.std.specs.Prelude.{IsSome}
use Rattle.outside.specs.declared.shelf.RackFile.{RackFile}
use Rattle.outside.specs.Counts.{one_more, is_listed}
use Rattle.outside.specs.Shelf.{files_of, name_of}
use Rattle.outside.specs.Rack.{RackState}

pub record MemRackState : Type 0 where
  -- the files that were created before the last one, and that one
  pub done : List RackFile
  pub current : Option RackFile
  pub reported : List ℕ
  pub is_open : Bool
  -- the most bytes that one write takes, and the bytes that there is still room for
  pub grain : ℕ
  pub workspace : ℕ
  -- the numbers of the calls that fail, and how many calls were made
  pub fails : List ℕ
  pub calls : ℕ
  -- the names handed to `create`, while there was memory for them
  pub asked : Option (List (List ℕ))
  -- the names of the files that were finished, while there was memory for them
  pub finished : Option (List (List ℕ))
  pub faults : ℕ

-- what it means as a rack: it tells all
abbrev pub rack_of : MemRackState → RackState
rack_of m = record {
  tells = true;
  file = files_of m.done m.current;
  reported = m.reported;
  is_open = m.is_open;
  current = name_of m.current;
  asked = m.asked;
  finished = m.finished;
  faults = m.faults;
}

-- no file, no text, and no call yet
abbrev pub fresh_rack : ℕ → ℕ → List ℕ → MemRackState
fresh_rack grain workspace
    fails = record {
      done = [];
      current = None;
      reported = [];
      is_open = false;
      grain = grain;
      workspace = workspace;
      fails = fails;
      calls = 0;
      asked = Some [];
      finished = Some [];
      faults = 0;
    }

-- A call counts, and it counts as a fault exactly where it fails. It fails where its number is
-- listed.
pub record CountsRack {T E : Type 0} (before after : MemRackState)
    (result : Result T E) : Type 0 where
  pub grain : after.grain ≡ before.grain
  pub fails : after.fails ≡ before.fails
  pub calls : after.calls ≡ one_more before.calls
  pub listed : IsTrue (is_listed before.fails before.calls) → IsTrue (is_err result)
  pub well : OnOk result (after.faults ≡ before.faults)
  pub fault : OnErr result (after.faults ≡ one_more before.faults)

-- how many bytes of a piece of that length the next write takes
abbrev pub most_taken : MemRackState → ℕ → ℕ
most_taken m len = min (min len m.grain) m.workspace

-- `write` takes as many bytes as the piece, the grain and the room allow, and fails where a
-- piece that isn't empty meets
-- no room. An empty piece fails only by the call's number.
pub record WritesMem {E : Type 0} (piece : List ℕ) (before after : MemRackState)
    (result : Result ℕ E) : Type 0 where
  pub counts : CountsRack before after result
  pub full : before.workspace ≡ 0 → 0 < length piece → IsTrue (is_err result)
  pub empty : length piece ≡ 0 → is_ok result ≡ not (is_listed before.fails before.calls)
  pub count : IfOk result (λ n. n ≡ most_taken before (length piece))
  pub workspace : IfOk result (λ n. after.workspace + n ≡ before.workspace)
  pub kept : OnErr result (after.workspace ≡ before.workspace)

-- `finish` fails exactly where its number is listed.
pub record FinishesMem {T E : Type 0} (before after : MemRackState)
    (result : Result T E) : Type 0 where
  pub counts : CountsRack before after result
  pub exact : is_ok result ≡ not (is_listed before.fails before.calls)
  pub workspace : after.workspace ≡ before.workspace

-- A `tell` that fails appends nothing. An empty text fails only by the call's number.
pub record TellsMem {T E : Type 0} (text : List ℕ) (before after : MemRackState)
    (result : Result T E) : Type 0 where
  pub counts : CountsRack before after result
  pub workspace : after.workspace ≡ before.workspace
  pub empty : length text ≡ 0 → is_ok result ≡ not (is_listed before.fails before.calls)
  pub kept : OnErr result (after.reported ≡ before.reported)

pub record CreatesMem {T E : Type 0} (before after : MemRackState)
    (result : Result T E) : Type 0 where
  pub counts : CountsRack before after result
  pub workspace : after.workspace ≡ before.workspace

-- Some bytes are taken by each write, and a file that is open is there.
pub record IsRackInside (grain : ℕ) (is_open : Bool) (current : Option RackFile) : Type 0 where
  pub some : 0 < grain
  pub there : IsTrue is_open → IsSome current
