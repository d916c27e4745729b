-- What it means to tell a text, and to refuse with a line.
use Rattle.std.specs.Prelude.{◌≡◌, ◌⊎◌, ℕ, IsTrue, List, ◌++◌, take}
use Rattle.outside.specs.ErrorCases.{RoseOnce}
use Rattle.outside.specs.Counts.{one_more}
use Rattle.outside.specs.Rack.{RackState, KeepsRack}
use Rattle.common_errors.specs.declared.common.CommonError.{CommonError}
use Rattle.common_errors.specs.CommonErrors.{line_of, status_of}

-- The text is printed whole, and no call failed beyond that number of faults; or one further call
-- failed, none came after it, and a prefix of the text is printed.
abbrev pub IsReported : List ℕ → ℕ → RackState → RackState → Type 0
IsReported text since before after = ((after.faults ≡ since)
    × (IsTrue before.tells → after.reported ≡ before.reported ++ text))
    ⊎ (RoseOnce since after.faults
    × (IsTrue before.tells → (count : ℕ) × (after.reported ≡ before.reported ++ take count text)))

-- The text is printed and nothing else: whole, unless the rack has a fault, which is the last call.
abbrev pub TellsText : List ℕ → RackState → RackState → Type 0
TellsText text before after = IsReported text before.faults before after

-- The same after a failed write: whole, unless a further call failed than the one of the write.
abbrev pub TellsAfterFault : List ℕ → RackState → RackState → Type 0
TellsAfterFault text before after = IsReported text (one_more before.faults) before after

-- No file is created, changed, opened or finished.
pub record KeepsFiles (before after : RackState) : Type 0 where
  pub keeps : KeepsRack before after
  pub asked : after.asked ≡ before.asked
  pub finished : after.finished ≡ before.finished
  pub is_open : after.is_open ≡ before.is_open
  pub files : IsTrue before.tells → after.file ≡ before.file

-- An error tells its line and gives its status.
pub record Refuses (error : CommonError) (before after : RackState) (status : ℕ) : Type 0 where
  pub files : KeepsFiles before after
  pub line : TellsText (line_of error) before after
  pub status_is : status ≡ status_of error
