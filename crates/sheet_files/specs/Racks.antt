-- Several racks, of which each writes the file of one plate, and the first one the report after
-- its plate.
use Rattle.std.specs.Prelude.{◌≡◌, ◌≢◌, ◌⊎◌, ℕ, zero, suc, ◌<◌, ◌≤◌, IsTrue, List, [], ◌∷◌}
use Rattle.std.specs.Prelude.{length, take, Option, Some, None, Result, Ok, Err}
use Rattle.std.specs.List.{All}
use Rattle.outside.specs.ErrorCases.{Asks, AsksPrefix, RoseOnce}
use Rattle.outside.specs.Rack.{RackState, KeepsRack, put}
use Rattle.outside.specs.Writing.{WritesFile}
use Rattle.outside.specs.declared.tray.DeviceError.{DeviceError}
use Rattle.page_files.specs.Inputs.{name_at}
use Rattle.page_model.specs.declared.parts.Plane.{Plane}
use Rattle.page_model.specs.Limits.{most_maxval}
use Rattle.page_model.specs.Planes.{plane_at}
use Rattle.page_files.specs.Files.{Written}
use Rattle.page_files.specs.Format.{encoded}
use Rattle.page_files.specs.Writing.{BreaksAt, WritesAll}
use Rattle.plate_rows.specs.Racks.{rack_at}
use Rattle.common_errors.specs.declared.common.CommonError.TheVariants.{Write}
use Rattle.sheet_files.specs.Gathering.{tray_of}
use Rattle.sheet_files.specs.declared.error.TrapsheetError.{TrapsheetError}
use Rattle.sheet_files.specs.declared.error.TrapsheetError.TheVariants.{Common}
use Rattle.page_files.specs.Verdicts.{Targets}

-- plate k as a file
abbrev pub plate_file : Targets → List Plane → ℕ → Written
plate_file target planes k =
    record { name = name_at target.outputs k; bytes = encoded (plane_at planes k) }

-- the files that rack k writes, in their order
abbrev pub rack_files : Targets → List Plane → List ℕ → ℕ → List Written
rack_files target planes text zero = plate_file target planes zero
    ∷ record { name = target.report; bytes = text } ∷ []
rack_files target planes text (suc k) = plate_file target planes (suc k) ∷ []

-- their names
abbrev pub rack_names : Targets → ℕ → List (List ℕ)
rack_names target zero = name_at target.outputs zero ∷ target.report ∷ []
rack_names target (suc k) = name_at target.outputs (suc k) ∷ []

-- Each rack is asked for its own files alone, and those of no plate are as they were. Nothing is
-- printed.
pub record KeepsRacks (target : Targets) (before after : List RackState) : Type 0 where
  pub keeps : (k : ℕ) → KeepsRack (rack_at before k) (rack_at after k)
  pub reported : (k : ℕ) → IsTrue (rack_at before k).tells
      → (rack_at after k).reported ≡ (rack_at before k).reported
  pub asked : (k : ℕ)
      → AsksPrefix (rack_at before k).asked (rack_at after k).asked (rack_names target k)
  pub beyond : (k : ℕ) → length target.outputs ≤ k → rack_at after k ≡ rack_at before k

-- which of the files of its rack a file is
abbrev pub place_in : Option ℕ → ℕ
place_in None = 1
place_in (Some plate) = 0

-- Of a file that was created a prefix of its bytes stands under its name. It is open still, and all
-- else is as it was.
pub record HoldsPart (file : Written) (before after : RackState) : Type 0 where
  pub asked : Asks before.asked after.asked (file.name ∷ [])
  pub finished : after.finished ≡ before.finished
  pub is_open : IsTrue after.is_open
  pub part : IsTrue before.tells
      → (count : ℕ) × (after.file ≡ put file.name (take count file.bytes) before.file)
  pub well : after.faults ≡ before.faults

-- Of each plate a prefix stands, or it was not begun. No report is begun.
abbrev pub HoldParts : Targets → List Plane → List RackState → List RackState → Type 0
HoldParts target planes before after = (k : ℕ) → k < length target.outputs
    → (rack_at after k ≡ rack_at before k)
    ⊎ HoldsPart (plate_file target planes k) (rack_at before k) (rack_at after k)

-- The write of that file failed: its rack has written the files before it whole, and of it a
-- prefix, or it is as before. Each other rack is as it was, or of its plate a prefix stands, or its
-- plate is whole. If the report is the file that failed, all plates are whole.
pub record BreaksSheet (target : Targets) (planes : List Plane) (text : List ℕ)
    (file : Option ℕ) (before after : List RackState) : Type 0 where
  pub known : tray_of file < length target.outputs
  pub breaks : BreaksAt (rack_files target planes text (tray_of file)) (place_in file)
      (rack_at before (tray_of file)) (rack_at after (tray_of file))
  pub once : RoseOnce (rack_at before (tray_of file)).faults (rack_at after (tray_of file)).faults
  pub others : (k : ℕ) → k ≢ tray_of file → (rack_at after k ≡ rack_at before k)
      ⊎ HoldsPart (plate_file target planes k) (rack_at before k) (rack_at after k)
      ⊎ WritesAll (plate_file target planes k ∷ []) (rack_at before k) (rack_at after k)
  pub whole : file ≡ None → (k : ℕ) → k ≢ 0 → k < length target.outputs
      → WritesAll (plate_file target planes k ∷ []) (rack_at before k) (rack_at after k)

-- Planes that can be written as plates.
pub record CanWrite (planes : List Plane) : Type 0 where
  pub maxvals : All (λ plane. plane.maxval ≤ most_maxval) planes
  pub fits : All (λ plane. All (λ t. t ≤ plane.maxval) plane.tints) planes

-- Each plane is written as a plate by its own rack, and then the text as the report by the first.
pub data WritesSheet (target : Targets) (planes : List Plane) (text : List ℕ)
    (before after : List RackState) (result : Result (Unit {0}) TrapsheetError) : Type 0 where
  wrote : result ≡ Ok tt → ((k : ℕ) → k < length target.outputs
      → WritesAll (rack_files target planes text k) (rack_at before k) (rack_at after k))
      → KeepsRacks target before after → WritesSheet target planes text before after result
  broke : (file : Option ℕ) → result ≡ Err (Common (Write file))
      → BreaksSheet target planes text file before after → KeepsRacks target before after
      → WritesSheet target planes text before after result

-- the files of these names
abbrev pub targets : List (List ℕ) → List ℕ → Targets
targets outputs report = record { outputs = outputs; report = report }

-- The first `count` planes are written, each by its own rack; the racks after them are as they
-- were.
pub record WritesFirst (outputs : List (List ℕ)) (planes : List Plane) (count : ℕ)
    (before after : List RackState) : Type 0 where
  pub each : (k : ℕ) → k < count → WritesFile {T = Unit {0}} {E = DeviceError} (name_at outputs k)
      (encoded (plane_at planes k)) (rack_at before k) (rack_at after k) (Ok tt)
  pub others : (k : ℕ) → count ≤ k → rack_at after k ≡ rack_at before k

-- The planes are written, up to the first whose write fails.
pub data WritesPlates (outputs : List (List ℕ)) (planes : List Plane)
    (before after : List RackState) (result : Result (Unit {0}) TrapsheetError) : Type 0 where
  wrote : result ≡ Ok tt → WritesFirst outputs planes (length outputs) before after
      → WritesPlates outputs planes before after result
  broke : (k : ℕ) (between : List RackState) (failed : DeviceError)
      → result ≡ Err (Common (Write (Some k))) → k < length outputs
      → WritesFirst outputs planes k before between
      → WritesFile {T = Unit {0}} (name_at outputs k) (encoded (plane_at planes k))
      (rack_at between k) (rack_at after k) (Err failed)
      → ((j : ℕ) → j ≢ k → rack_at after j ≡ rack_at between j)
      → WritesPlates outputs planes before after result
