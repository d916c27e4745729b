-- What it means to write on in the open file, and to write a whole file.
use Rattle.std.specs.Prelude.{◌≡◌, ◌⊎◌, ℕ, IsTrue, IsFalse, List, [], ◌∷◌, ◌++◌, take, Option}
use Rattle.std.specs.Prelude.{Result, OnOk, OnErr}
use Rattle.outside.specs.ErrorCases.{Rose, RoseOnce, Asks}
use Rattle.outside.specs.Rack.{RackState, KeepsRack, FinishesFile, put}

-- Whatever bytes the current file has, the piece is put after them.
abbrev pub Grows : List ℕ → RackState → RackState → Type 0
Grows piece before after = (bytes : List ℕ) (files : List ℕ → Option (List ℕ))
    → before.file ≡ put before.current bytes files
    → after.file ≡ put before.current (bytes ++ piece) files

-- The piece is written whole at the end of the open file, or a prefix of it and a fault.
pub record WritesOn {T E : Type 0} (piece : List ℕ) (before after : RackState)
    (result : Result T E) : Type 0 where
  pub keeps : KeepsRack before after
  pub asked : after.asked ≡ before.asked
  pub reported : IsTrue before.tells → after.reported ≡ before.reported
  pub is_open : after.is_open ≡ before.is_open
  pub finished : after.finished ≡ before.finished
  pub current : IsTrue before.tells → after.current ≡ before.current
  pub files : OnOk result (IsTrue before.tells → Grows piece before after)
  pub part : OnErr result (IsTrue before.tells → (k : ℕ) × Grows (take k piece) before after)
  pub well : OnOk result (after.faults ≡ before.faults)
  pub reason : OnErr result (Rose before.faults after.faults)
  pub once : OnErr result (RoseOnce before.faults after.faults)

-- The file is not written whole. Where it was created it is still open, and a prefix of its bytes
-- stands under its name;
-- where it could not be created no file is open, and all files are as they were.
abbrev pub BreaksFile : List ℕ → List ℕ → (List ℕ → Option (List ℕ)) → RackState → Type 0
BreaksFile name bytes files after = (IsFalse after.is_open × (after.file ≡ files))
    ⊎ (IsTrue after.is_open × ((k : ℕ) × (after.file ≡ put name (take k bytes) files)))

-- The rest of the open file is written, and the file is finished. Where that fails it is open
-- still.
pub record FillsFile {T E : Type 0} (bytes : List ℕ) (before after : RackState)
    (result : Result T E) : Type 0 where
  pub keeps : KeepsRack before after
  pub asked : after.asked ≡ before.asked
  pub reported : IsTrue before.tells → after.reported ≡ before.reported
  pub shut : OnOk result (IsFalse after.is_open)
  pub finished : OnOk result (FinishesFile before.current before after)
  pub unfinished : OnErr result (after.finished ≡ before.finished)
  pub kept : OnErr result (after.is_open ≡ before.is_open)
  pub files : OnOk result (IsTrue before.tells → Grows bytes before after)
  pub part : OnErr result (IsTrue before.tells → (k : ℕ) × Grows (take k bytes) before after)
  pub well : OnOk result (after.faults ≡ before.faults)
  pub reason : OnErr result (Rose before.faults after.faults)
  pub once : OnErr result (RoseOnce before.faults after.faults)

-- All bytes stand under the name, and everything else is as it was.
pub record WritesFile {T E : Type 0} (name bytes : List ℕ) (before after : RackState)
    (result : Result T E) : Type 0 where
  pub keeps : KeepsRack before after
  pub asked : Asks before.asked after.asked (name ∷ [])
  pub reported : IsTrue before.tells → after.reported ≡ before.reported
  pub shut : OnOk result (IsFalse after.is_open)
  pub finished : OnOk result (FinishesFile name before after)
  pub unfinished : OnErr result (after.finished ≡ before.finished)
  pub files : OnOk result (IsTrue before.tells → after.file ≡ put name bytes before.file)
  pub part : OnErr result (IsTrue before.tells → BreaksFile name bytes before.file after)
  pub well : OnOk result (after.faults ≡ before.faults)
  pub reason : OnErr result (Rose before.faults after.faults)
  pub once : OnErr result (RoseOnce before.faults after.faults)
