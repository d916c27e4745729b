-- What it means to apply the set that a file holds.
use Rattle.std.specs.Prelude.{◌≡◌, ℕ, ◌+◌, ◌-◌, ◌*◌, ◌<◌, ◌≤◌, IsTrue, IsFalse, List, [], ◌∷◌, ◌++◌}
use Rattle.std.specs.Prelude.{length, take, Some, Result, Ok, Err, All}
use Rattle.outside.specs.ErrorCases.{Rose, Asks}
use Rattle.outside.specs.Tray.{TrayState, KeepsTray}
use Rattle.page_model.specs.declared.parts.Plane.{Plane}
use Rattle.page_model.specs.Planes.{plane_at}
use Rattle.trap_set.specs.Applied.{applied}
use Rattle.trap_set.specs.Lines.{BeginSet, IsBadLine, lines_of}
use Rattle.trap_set.specs.Runs.{Run}
use Rattle.trap_set.specs.SetText.{SetHead, IsSetFile}
use Rattle.trap_set.specs.declared.apply.SetError.{SetError}
use Rattle.trap_set.specs.declared.apply.SetError.TheVariants.{BadLine, Differs, ReadFault}

-- a plane with a tint for each sample
abbrev pub IsFull : Plane → Type 0
IsFull plane = length plane.tints ≡ plane.width * plane.height

-- a plane of the sides and the maxval that a page line has
pub record IsSized (head : SetHead) (plane : Plane) : Type 0 where
  pub as_wide : plane.width ≡ head.width
  pub as_tall : plane.height ≡ head.height
  pub as_deep : plane.maxval ≡ head.maxval

-- the planes are those of the page line
pub record Fits (head : SetHead) (planes : List Plane) : Type 0 where
  pub as_many : length planes ≡ head.plates
  pub sized : All (IsSized head) planes

-- the first two lines of the text begin a set for other planes
pub record Differ (bytes : List ℕ) (planes : List Plane) : Type 0 where
  pub head : SetHead
  pub begins : BeginSet bytes 2 head []
  pub others : Fits head planes → ⊥

-- the first k lines of the text begin a set, and the planes have the runs of these lines, of which
-- the first two are none
pub record HaveRuns (bytes : List ℕ) (k : ℕ) (old new : List Plane) : Type 0 where
  pub head : SetHead
  pub runs : List Run
  pub begins : BeginSet bytes k head runs
  pub planes : new ≡ applied (take (k - 2) runs) old

-- the file is the text of a set for these planes, and was read to its end
pub record TakesSet (bytes : List ℕ) (after : TrayState) (old new : List Plane) : Type 0 where
  pub head : SetHead
  pub runs : List Run
  pub is_file : IsSetFile bytes head runs
  pub fits : Fits head old
  pub planes : new ≡ applied runs old
  pub at_end : after.left ≡ []

-- line n, counted from 1, is the first bad one; the set is not one for other planes
pub record MeetsBadLine (bytes : List ℕ) (n : ℕ) (old new : List Plane) : Type 0 where
  pub good : ℕ
  pub is : n ≡ good + 1
  pub bad : IsBadLine bytes good
  pub same : Differ bytes old → ⊥
  pub has : HaveRuns bytes good old new

-- the tray failed after a prefix of the text; none of its lines is bad, and it is not for other
-- planes
pub record BreaksOff (bytes : List ℕ) (after : TrayState) (old new : List Plane) : Type 0 where
  pub prefix : List ℕ
  pub taken : bytes ≡ prefix ++ after.left
  pub good : ℕ
  pub whole_lines : length (lines_of prefix) ≡ good + 1
  pub same : Differ prefix old → ⊥
  pub has : HaveRuns prefix good old new

-- what the answer says of the file's bytes and of the planes
abbrev pub SaysOf : {T : Type 0} → List ℕ → TrayState → List Plane → List Plane
    → Result T SetError → Type 0
SaysOf bytes after old new (Ok done) = TakesSet bytes after old new
SaysOf bytes after old new (Err (BadLine n)) = MeetsBadLine bytes n old new
SaysOf bytes after old new (Err Differs) = Differ bytes old × (new ≡ old)
SaysOf bytes after old new (Err ReadFault) = BreaksOff bytes after old new

-- a plane before and after: of the same sides and maxval, with as many tints
pub record KeepsPlane (before after : Plane) : Type 0 where
  pub as_wide : after.width ≡ before.width
  pub as_tall : after.height ≡ before.height
  pub as_deep : after.maxval ≡ before.maxval
  pub as_many : length after.tints ≡ length before.tints

-- no tint is above the plane's maxval
abbrev pub IsBelow : Plane → Type 0
IsBelow plane = All (λ tint. tint ≤ plane.maxval) plane.tints

-- the planes stay what they are but for their tints, and no tint comes above a maxval
pub record KeepsPlanes (old new : List Plane) : Type 0 where
  pub as_many : length new ≡ length old
  pub each : (c : ℕ) → c < length old → KeepsPlane (plane_at old c) (plane_at new c)
  pub below : All IsBelow old → All IsBelow new

-- no answer but a read fault passes a fault of the tray over, and that one comes only where there
-- is one
abbrev pub CountsFaults : {T : Type 0} → TrayState → TrayState → Result T SetError → Type 0
CountsFaults before after (Ok done) = after.faults ≡ before.faults
CountsFaults before after (Err (BadLine n)) = after.faults ≡ before.faults
CountsFaults before after (Err Differs) = after.faults ≡ before.faults
CountsFaults before after (Err ReadFault) = Rose before.faults after.faults

-- the bytes end with these
abbrev pub EndsWith : List ℕ → List ℕ → Type 0
EndsWith bytes rest = (prefix : List ℕ) × (bytes ≡ prefix ++ rest)

-- what is to come after the last line
abbrev pub SaysEnd : {T : Type 0} → ℕ → TrayState → List ℕ → Result T SetError → Type 0
SaysEnd number after rest (Ok done) = (rest ≡ []) × (after.left ≡ [])
SaysEnd number after rest (Err (BadLine n)) = (n ≡ number) × (rest ≡ [] → ⊥)
    × EndsWith rest after.left
SaysEnd number after rest (Err Differs) = ⊥
SaysEnd number after rest (Err ReadFault) = rest ≡ after.left

-- nothing stands after the last line, or what does is a bad line of that number, or the tray fails
pub record EndsSet {T : Type 0} (number : ℕ) (before after : TrayState) (stored : List ℕ)
    (result : Result T SetError) : Type 0 where
  pub keeps : KeepsTray before after
  pub asked : after.asked ≡ before.asked
  pub begun : IsTrue after.begun
  pub count : CountsFaults before after result
  pub says : IsTrue before.tells → SaysEnd number after (stored ++ before.left) result

-- the file that is begun is read and its set applied
pub record AppliesText {T : Type 0} (before after : TrayState) (old new : List Plane)
    (result : Result T SetError) : Type 0 where
  pub keeps : KeepsTray before after
  pub asked : after.asked ≡ before.asked
  pub begun : IsTrue after.begun
  pub planes : KeepsPlanes old new
  pub count : CountsFaults before after result
  pub taken : IsTrue before.tells → EndsWith before.left after.left
  pub says : IsTrue before.tells → SaysOf before.left after old new result

-- The set of the file of that name is applied. Where the tray tells, the answer says what the file
-- is and which runs the planes have; a file that is not begun is a read fault, and leaves the
-- planes as they were. What is left is the end of the file.
pub record AppliesSet {T : Type 0} (name : List ℕ) (before after : TrayState) (old new : List Plane)
    (result : Result T SetError) : Type 0 where
  pub keeps : KeepsTray before after
  pub asked : Asks before.asked after.asked (name ∷ [])
  pub planes : KeepsPlanes old new
  pub count : CountsFaults before after result
  pub not_begun : IsFalse after.begun → (new ≡ old) × (result ≡ Err ReadFault)
  pub taken : IsTrue after.begun → IsTrue before.tells → (bytes : List ℕ)
      × (before.file name ≡ Some bytes) × EndsWith bytes after.left
  pub says : IsTrue after.begun → IsTrue before.tells → (bytes : List ℕ)
      × (before.file name ≡ Some bytes) × SaysOf bytes after old new result
