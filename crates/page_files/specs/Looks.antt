-- What it means to look into files one after another, up to the first that is refused.
use Rattle.std.specs.Prelude.{◌≡◌, ◌⊎◌, ℕ, ◌<◌, ◌+◌, Bool, false, IsTrue, List, [], ◌∷◌, ◌++◌}
use Rattle.std.specs.Prelude.{length, take, All, Some, IfSome, Result, Ok, Err}
use Rattle.outside.specs.ErrorCases.{Rose, Asks}
use Rattle.outside.specs.Tray.{TrayState, KeepsTray}
use Rattle.page_files.specs.Inputs.{Holds, AreFound, name_at}

-- What is sought in each file: a value, or why there is none.
pub record Sought (V E : Type 0) : Type 1 where
  -- the file's bytes give this value
  pub gives : List ℕ → V → Type 0
  -- what a value is, whether or not the bytes are known
  pub fine : V → Type 0
  -- stands where there is no value
  pub none : V
  -- why a file is refused: its bytes are such
  pub Reason : Type 0
  pub because : Reason → List ℕ → Type 0
  -- whether a read may have failed after the bytes that are refused
  pub may_hide : Reason → Bool
  -- what the bytes are that came before a failed read
  pub sound : List ℕ → Type 0
  -- no more bytes than these are owed
  pub few : List ℕ → Type 0
  -- how the errors of file k are reported
  pub refused : ℕ → Reason → E
  pub unread : ℕ → E
  pub memory : E

-- Some bytes are taken off the beginning of the file, no more than are owed.
pub record Takes (Few : List ℕ → Type 0) (name : List ℕ) (before after : TrayState) : Type 0 where
  pub bytes : List ℕ
  pub taken : IsTrue after.begun → IsTrue before.tells
      → before.file name ≡ Some (bytes ++ after.left)
  pub few : Few bytes

-- Some bytes were taken off the beginning of the file that is in hand, and they are such.
abbrev pub HasTaken : (List ℕ → Type 0) → List ℕ → TrayState → TrayState → Type 0
HasTaken Such name before after = IsTrue after.begun → IsTrue before.tells
    → (bytes : List ℕ) × (before.file name ≡ Some (bytes ++ after.left)) × Such bytes

-- The file of that name was opened last, where the names are known.
abbrev pub IsLast : List ℕ → TrayState → Type 0
IsLast name after =
    IfSome after.asked (λ all. (earlier : List (List ℕ)) × (all ≡ earlier ++ name ∷ []))

-- One of the files is in hand: it was opened last, and no more is taken of it than is owed.
abbrev pub FileInHand : (List ℕ → Type 0) → List (List ℕ) → TrayState → TrayState → Type 0
FileInHand Few names before after = (k : ℕ) × (k < length names)
    × Takes Few (name_at names k) before after × IsLast (name_at names k) after

-- The same after `count` files; before the first one nothing is begun.
abbrev pub HoldsOne : (List ℕ → Type 0) → List (List ℕ) → ℕ → TrayState → TrayState → Type 0
HoldsOne Few names count before after =
    ((count ≡ 0) × (after ≡ before)) ⊎ FileInHand Few names before after

-- File k is refused: for its bytes, where these are known, for a read that failed, or for lack of
-- memory. But where it may hide one, no fault of the tray is passed over.
pub data Refuses {V E : Type 0} (sought : Sought V E) (k : ℕ) (name : List ℕ)
    (before after : TrayState) (error : E) : Type 0 where
  refused : (why : sought.Reason) → error ≡ sought.refused k why
      → (sought.may_hide why ≡ false → after.faults ≡ before.faults)
      → (IsTrue before.tells → Holds before.file name (sought.because why))
      → Refuses sought k name before after error
  unread : error ≡ sought.unread k → Rose before.faults after.faults
      → HasTaken sought.sound name before after → Refuses sought k name before after error
  no_memory : error ≡ sought.memory → after.faults ≡ before.faults
      → Refuses sought k name before after error

abbrev pub AnswersLook : {V E : Type 0} → Sought V E → ℕ → List ℕ → TrayState → TrayState
    → Result V E → Type 0
AnswersLook sought k name before after (Ok value) = sought.fine value
    × (after.faults ≡ before.faults)
    × (IsTrue before.tells → Holds before.file name (λ bytes. sought.gives bytes value))
AnswersLook sought k name before after (Err error) = Refuses sought k name before after error

-- It is looked into the file of that name, which is file k.
pub record LooksAt {V E : Type 0} (sought : Sought V E) (k : ℕ) (name : List ℕ)
    (before after : TrayState) (result : Result V E) : Type 0 where
  pub keeps : KeepsTray before after
  pub asked : Asks before.asked after.asked (name ∷ [])
  pub takes : Takes sought.few name before after
  pub answer : AnswersLook sought k name before after result

-- the first k files gave their values, and the next one is open
pub record StopsAt {V E : Type 0} (sought : Sought V E) (names : List (List ℕ)) (k : ℕ)
    (before after : TrayState) : Type 0 where
  pub known : k < length names
  pub asked : Asks before.asked after.asked (take (k + 1) names)
  pub found : List V
  pub before_it : IsTrue before.tells
      → AreFound sought.gives sought.none before.file names k found

abbrev pub AnswersLooks : {V E : Type 0} → Sought V E → List (List ℕ) → TrayState → TrayState
    → Result (List V) E → Type 0
AnswersLooks sought names before after (Ok values) = Asks before.asked after.asked names
    × (length values ≡ length names) × All sought.fine values × (after.faults ≡ before.faults)
    × (IsTrue before.tells
    → AreFound sought.gives sought.none before.file names (length names) values)
AnswersLooks sought names before after (Err error) = (k : ℕ)
    × StopsAt sought names k before after
    × Refuses sought k (name_at names k) before after error

-- It is looked into the files of these names in order, up to the first that is refused.
pub record LooksThrough {V E : Type 0} (sought : Sought V E) (names : List (List ℕ))
    (before after : TrayState) (result : Result (List V) E) : Type 0 where
  pub keeps : KeepsTray before after
  pub in_hand : HoldsOne sought.few names (length names) before after
  pub answer : AnswersLooks sought names before after result
