-- Several trays, of which each reads the file of one plate.
use Rattle.std.specs.Prelude.{◌≡◌, ◌⊎◌, ℕ, false, IsTrue, List, [], ◌∷◌, ◌++◌, Some, None}
use Rattle.std.specs.Prelude.{slice_index_or}
use Rattle.outside.specs.ErrorCases.{Asks}
use Rattle.outside.specs.Tray.{TrayState, KeepsTray}
use Rattle.pgm_plates.specs.declared.header.Header.{Header}
use Rattle.pgm_plates.specs.declared.plate.Plate.{Plate}
use Rattle.pgm_plates.specs.declared.rows.OpenPlate.{OpenPlate}
use Rattle.pgm_plates.specs.Reading.{AreFew}
use Rattle.plate_rows.specs.Each.{EachDoes, StopsAt}

-- stands where there is no tray
abbrev pub no_tray : TrayState
no_tray = record {
  tells = false;
  file = λ name. None;
  begun = false;
  left = [];
  asked = None;
  faults = 0;
}

-- tray k
abbrev pub tray_at : List TrayState → ℕ → TrayState
tray_at trays k = slice_index_or trays k no_tray

-- Each of the first trays does this.
abbrev pub EachTray : ℕ → (ℕ → TrayState → TrayState → Type 0) → List TrayState → List TrayState
    → Type 0
EachTray = EachDoes no_tray

-- Tray k stops, and each before it does this.
abbrev pub TrayStops : ℕ → ℕ → (ℕ → TrayState → TrayState → Type 0)
    → (ℕ → TrayState → TrayState → Type 0) → List TrayState → List TrayState → Type 0
TrayStops = StopsAt no_tray

-- name k, and no byte where there is none
abbrev pub name_at : List (List ℕ) → ℕ → List ℕ
name_at names k = slice_index_or names k []

-- stands where there is no header
abbrev pub no_header : Header
no_header = record { width = 0; height = 0; maxval = 0 }

-- header k
abbrev pub header_at : List Header → ℕ → Header
header_at headers k = slice_index_or headers k no_header

-- the header of a plate
abbrev pub header_in : Plate → Header
header_in plate = record { width = plate.width; height = plate.height; maxval = plate.maxval }

-- stands where no plate is begun
abbrev pub no_open : OpenPlate
no_open = record { header = no_header; size = 0 }

-- the plate that is begun on tray k
abbrev pub open_at : List OpenPlate → ℕ → OpenPlate
open_at plates k = slice_index_or plates k no_open

-- The file of that name is asked for, and no more bytes are taken off its beginning than are owed.
pub record TakesFile (name : List ℕ) (before after : TrayState) : Type 0 where
  pub keeps : KeepsTray before after
  pub asked : Asks before.asked after.asked (name ∷ [])
  pub bytes : List ℕ
  pub taken : IsTrue after.begun → IsTrue before.tells
      → before.file name ≡ Some (bytes ++ after.left)
  pub few : AreFew bytes

-- The tray is as it was, or the file of that name was asked for.
abbrev pub MayTakeFile : List ℕ → TrayState → TrayState → Type 0
MayTakeFile name before after = (after ≡ before) ⊎ TakesFile name before after

-- The first `count` files are asked for, each of its own tray.
abbrev pub TakesFiles : List (List ℕ) → ℕ → List TrayState → List TrayState → Type 0
TakesFiles names count = EachTray count (λ k before after. TakesFile (name_at names k) before after)

-- The count of faults of tray k stays.
abbrev pub IsCalm : List TrayState → List TrayState → ℕ → Type 0
IsCalm before after k = (tray_at after k).faults ≡ (tray_at before k).faults
