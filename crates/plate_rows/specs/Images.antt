-- Plates that are written row by row, each by a rack of its own.
use Rattle.std.specs.Prelude.{[], ◌≡◌, ℕ, ◌*◌, ◌<◌, ◌≤◌, List, ◌++◌, length, take, drop, Some}
use Rattle.std.specs.Prelude.{Result, IsTrue, ◌∷◌, Ok, Err}
use Rattle.outside.specs.declared.tray.DeviceError.{DeviceError}
use Rattle.outside.specs.ErrorCases.{Asks}
use Rattle.outside.specs.Rack.{RackState, KeepsRack, put}
use Rattle.outside.specs.Writing.{WritesFile}
use Rattle.pgm_plates.specs.declared.header.Header.{Header}
use Rattle.pgm_plates.specs.Rows.{BeginsImage, EndsImage, HasWritten, WritesRows, spelled_so_far}
use Rattle.common_errors.specs.declared.common.CommonError.{CommonError}
use Rattle.common_errors.specs.declared.common.CommonError.TheVariants.{Write}
use Rattle.plate_rows.specs.Racks.{EachRack, RackStops, rack_at}
use Rattle.plate_rows.specs.Trays.{name_at}

-- So far these tints were written of each of the first plates, each by its own rack.
abbrev pub HaveWritten : List (List ℕ) → Header → ℕ → (ℕ → List ℕ) → List RackState
    → List RackState → Type 0
HaveWritten names header count tints = EachRack count
    (λ k before now. HasWritten (name_at names k) header (tints k) before now)

-- the file of plate k is begun
abbrev pub CreatesAt : List (List ℕ) → Header → ℕ → RackState → RackState → Type 0
CreatesAt names header k before after = BeginsImage (name_at names k) header before after (Ok tt)

-- The files are created, each with its header, up to the first at which that fails.
abbrev pub BeginsImages : List (List ℕ) → Header → List RackState → List RackState
    → Result (Unit {0}) CommonError → Type 0
BeginsImages names header before after (Ok done) =
    EachRack (length names) (CreatesAt names header) before after
BeginsImages names header before after (Err (Write (Some k))) =
    RackStops (length names) k (CreatesAt names header)
    (λ j a b. (failed : DeviceError) × BeginsImage (name_at names j) header a b (Err failed))
    before after
BeginsImages names header before after (Err other) = ⊥

-- the tints of plate k, where there are `each` of every plate, one plate after the other
abbrev pub part_at : ℕ → List ℕ → ℕ → List ℕ
part_at each tints k = take each (drop (k * each) tints)

-- plate k is written on
abbrev pub WritesAt : Header → (ℕ → List ℕ) → ℕ → RackState → RackState → Type 0
WritesAt header rows k before after = WritesRows header (rows k) before after (Ok tt)

-- The next rows of each of the first plates are written, up to the first at which that fails.
abbrev pub WritesNext : ℕ → Header → (ℕ → List ℕ) → List RackState → List RackState
    → Result (Unit {0}) CommonError → Type 0
WritesNext count header rows before after (Ok done) =
    EachRack count (WritesAt header rows) before after
WritesNext count header rows before after (Err (Write (Some k))) =
    RackStops count k (WritesAt header rows)
    (λ j a b. (failed : DeviceError) × WritesRows header (rows j) a b (Err failed)) before after
WritesNext count header rows before after (Err other) = ⊥

-- the file of plate k is finished
abbrev pub FinishesAt : ℕ → RackState → RackState → Type 0
FinishesAt k before after = EndsImage before after (Ok tt)

-- The files of the first plates are finished, up to the first at which that fails.
abbrev pub EndsImages : ℕ → List RackState → List RackState → Result (Unit {0}) CommonError → Type 0
EndsImages count before after (Ok done) = EachRack count FinishesAt before after
EndsImages count before after (Err (Write (Some k))) = RackStops count k FinishesAt
    (λ j a b. (failed : DeviceError) × EndsImage a b (Err failed)) before after
EndsImages count before after (Err other) = ⊥

-- Plate k could not be written whole: whatever comes after the rows that were to be written, a
-- prefix of its bytes stands. The plates before it have these rows, and those after it have not.
pub record BreaksRows (names : List (List ℕ)) (header : Header) (count k : ℕ)
    (tints rows : ℕ → List ℕ) (before after : List RackState) : Type 0 where
  pub known : k < count
  pub failed : DeviceError
  pub here : (more : List ℕ) → WritesFile {T = Unit {0}} (name_at names k)
      (spelled_so_far header (tints k ++ (rows k ++ more))) (rack_at before k) (rack_at after k)
      (Err failed)
  pub done : (j : ℕ) → j < k → HasWritten (name_at names j) header (tints j ++ rows j)
      (rack_at before j) (rack_at after j)
  pub left : (j : ℕ) → k < j → j < count → HasWritten (name_at names j) header (tints j)
      (rack_at before j) (rack_at after j)
  pub others : (j : ℕ) → count ≤ j → rack_at after j ≡ rack_at before j

-- each of the first plates is written whole, of these tints
abbrev pub AreWritten : List (List ℕ) → Header → ℕ → (ℕ → List ℕ) → List RackState
    → List RackState → Type 0
AreWritten names header count tints = EachRack count
    (λ k before after. WritesFile {T = Unit {0}} {E = DeviceError} (name_at names k)
    (spelled_so_far header (tints k)) before after (Ok tt))

-- Plate k could not be finished: a prefix of its bytes stands. The plates before it are written
-- whole, and those after it are not finished.
pub record LeavesFiles (names : List (List ℕ)) (header : Header) (count k : ℕ)
    (tints : ℕ → List ℕ) (before after : List RackState) : Type 0 where
  pub known : k < count
  pub failed : DeviceError
  pub here : WritesFile {T = Unit {0}} (name_at names k) (spelled_so_far header (tints k))
      (rack_at before k) (rack_at after k) (Err failed)
  pub done : (j : ℕ) → j < k → WritesFile {T = Unit {0}} {E = DeviceError} (name_at names j)
      (spelled_so_far header (tints j)) (rack_at before j) (rack_at after j) (Ok tt)
  pub left : (j : ℕ) → k < j → j < count → HasWritten (name_at names j) header (tints j)
      (rack_at before j) (rack_at after j)
  pub others : (j : ℕ) → count ≤ j → rack_at after j ≡ rack_at before j

-- These bytes stand under the name, and the file is open; everything else is as it was.
pub record HoldsBytes (name bytes : List ℕ) (before after : RackState) : Type 0 where
  pub keeps : KeepsRack before after
  pub asked : Asks before.asked after.asked (name ∷ [])
  pub reported : IsTrue before.tells → after.reported ≡ before.reported
  pub finished : after.finished ≡ before.finished
  pub is_open : IsTrue after.is_open
  pub well : after.faults ≡ before.faults
  pub file : IsTrue before.tells → after.file ≡ put name bytes before.file
