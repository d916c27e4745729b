-- What it means to write files one after another, and all files of a page.
use Rattle.std.specs.Prelude.{◌≡◌, ℕ, ◌<◌, IsTrue, IsFalse, List, [], ◌∷◌, ◌++◌, length, Option}
use Rattle.std.specs.Prelude.{Some, None, Result, Ok, Err}
use Rattle.outside.specs.ErrorCases.{Rose, RoseOnce, Asks, AsksPrefix}
use Rattle.outside.specs.Rack.{RackState, KeepsRack}
use Rattle.outside.specs.Writing.{BreaksFile}
use Rattle.page_model.specs.declared.parts.Plane.{Plane}
use Rattle.common_errors.specs.declared.common.CommonError.{CommonError}
use Rattle.common_errors.specs.declared.common.CommonError.TheVariants.{Write}
use Rattle.page_files.specs.Files.{Written, plate_files, page_files, names_of, put_all}

-- The files of these names, and no others, are finished, one after another.
abbrev pub FinishesAll : List (List ℕ) → RackState → RackState → Type 0
FinishesAll names before after = IsTrue before.tells → Asks before.finished after.finished names

-- Each of the files stands whole under its name and is finished, and all else is as it was.
pub record WritesAll (files : List Written) (before after : RackState) : Type 0 where
  pub asked : Asks before.asked after.asked (names_of files)
  pub whole : IsTrue before.tells → after.file ≡ put_all files before.file
  -- each of them is finished
  pub finished : FinishesAll (names_of files) before after
  -- none is open
  pub shut : 0 < length files → IsFalse after.is_open
  -- no fault was passed over
  pub well : after.faults ≡ before.faults

-- The rack has a fault at file k: the earlier ones stand whole and are finished; of this one a
-- prefix of its bytes, and it
-- is open still, or nothing is changed, exactly where it could not be created. None of the later
-- ones is begun.
pub record BreaksAt (files : List Written) (k : ℕ) (before after : RackState) : Type 0 where
  pub earlier : List Written
  pub file : Written
  pub later : List Written
  pub all : files ≡ earlier ++ file ∷ later
  pub place : length earlier ≡ k
  pub asked : Asks before.asked after.asked (names_of earlier ++ file.name ∷ [])
  pub finished : FinishesAll (names_of earlier) before after
  pub part : IsTrue before.tells
      → BreaksFile file.name file.bytes (put_all earlier before.file) after
  pub reason : Rose before.faults after.faults

-- Plate k of `plates` plates breaks; or, without a number, the report after them.
abbrev pub Breaks : ℕ → List Written → Option ℕ → RackState → RackState → Type 0
Breaks plates files (Some k) before after = (k < plates) × BreaksAt files k before after
Breaks plates files None before after = BreaksAt files plates before after

-- by the answer, where that number of the files are plates and the last is the report
abbrev pub AnswersWriting : {T : Type 0} → ℕ → List Written → RackState → RackState
    → Result T CommonError → Type 0
AnswersWriting plates files before after (Ok x) = WritesAll files before after
AnswersWriting plates files before after (Err (Write file)) = Breaks plates files file before after
AnswersWriting plates files before after (Err other) = ⊥

-- A failed write is one failed call, and no more: the count of faults rose by one.
abbrev pub FailsOnce : {T : Type 0} → RackState → RackState → Result T CommonError → Type 0
FailsOnce before after (Err (Write file)) = RoseOnce before.faults after.faults
FailsOnce before after other = Unit {0}

-- The plates and then the report are written. No text is printed.
pub record WritesPage {T : Type 0} (outputs : List (List ℕ)) (planes : List Plane)
    (report text : List ℕ) (before after : RackState) (result : Result T CommonError) : Type 0 where
  pub keeps : KeepsRack before after
  pub reported : IsTrue before.tells → after.reported ≡ before.reported
  pub asked : AsksPrefix before.asked after.asked (outputs ++ report ∷ [])
  pub answer : AnswersWriting (length outputs)
      (page_files outputs planes report text) before after result
  pub once : FailsOnce before after result

-- by the answer, where all files are plates, in that number
abbrev pub AnswersPlates : {T : Type 0} → ℕ → List Written → RackState → RackState
    → Result T CommonError → Type 0
AnswersPlates plates files before after (Ok x) = WritesAll files before after
AnswersPlates plates files before after (Err (Write (Some k))) =
    (k < plates) × BreaksAt files k before after
AnswersPlates plates files before after (Err other) = ⊥

-- The plates are written. No text is printed.
pub record WritesPlates {T : Type 0} (outputs : List (List ℕ)) (planes : List Plane)
    (before after : RackState) (result : Result T CommonError) : Type 0 where
  pub keeps : KeepsRack before after
  pub reported : IsTrue before.tells → after.reported ≡ before.reported
  pub asked : AsksPrefix before.asked after.asked outputs
  pub answer : AnswersPlates (length outputs) (plate_files outputs planes) before after result
  pub once : FailsOnce before after result
