-- What is so of plates that were judged: there are plates of these headers, which the trays' files
-- spell where they are known.
use Rattle.std.specs.Prelude.{◌≡◌, ℕ, ◌<◌, ◌≤◌, IsTrue, List, [], length, map, take, Some}
use Rattle.std.specs.Prelude.{Ok, slice_index_or}
use Rattle.std.specs.List.{All}
use Rattle.outside.specs.Tray.{TrayState}
use Rattle.pgm_plates.specs.declared.bounds.Bounds.TheVariants.{Sheet}
use Rattle.pgm_plates.specs.declared.header.Header.{Header}
use Rattle.pgm_plates.specs.declared.plate.Plate.{Plate}
use Rattle.pgm_plates.specs.declared.plate.PlateError.{PlateError}
use Rattle.pgm_plates.specs.Plates.{IsPlateFileWithin, IsPlateWithin}
use Rattle.plate_rows.specs.Judging.{JudgesPlates, RefusesFirst}
use Rattle.plate_rows.specs.Trays.{IsCalm, MayTakeFile, TakesFile, TakesFiles, header_in, name_at}
use Rattle.plate_rows.specs.Trays.{tray_at}

-- stands where there is no plate
abbrev pub no_plate : Plate
no_plate = record { width = 0; height = 0; maxval = 0; samples = [] }

-- plate k
abbrev pub plate_at : List Plate → ℕ → Plate
plate_at plates k = slice_index_or plates k no_plate

-- The file of that name spells the plate, where the tray tells its bytes.
abbrev pub Tells : List ℕ → TrayState → Plate → Type 0
Tells name tray plate = IsTrue tray.tells → (bytes : List ℕ) × (tray.file name ≡ Some bytes)
    × IsPlateFileWithin Sheet bytes plate

-- `count` plates, each within the bounds of a sheet, have these headers, and the files tell them.
pub record ArePlates (names : List (List ℕ)) (headers : List Header) (count : ℕ)
    (trays : List TrayState) (plates : List Plate) : Type 0 where
  pub all : length plates ≡ count
  pub in_range : All (IsPlateWithin Sheet) plates
  pub same : map header_in plates ≡ take count headers
  pub reported : (k : ℕ) → k < count → Tells (name_at names k) (tray_at trays k) (plate_at plates k)

-- All plates were judged, and no fault of a tray was passed over.
pub record AreJudged (names : List (List ℕ)) (headers : List Header)
    (before after : List TrayState) : Type 0 where
  pub plates : List Plate
  pub are_plates : ArePlates names headers (length names) before plates
  pub takes : TakesFiles names (length names) before after
  pub calm : (k : ℕ) → IsCalm before after k

-- The plates before plate k were judged, and no fault of their trays was passed over. The file of
-- plate k was asked for, and those of plates after it may have been.
pub record AreJudgedTo (names : List (List ℕ)) (headers : List Header) (k : ℕ)
    (before after : List TrayState) : Type 0 where
  pub known : k < length names
  pub plates : List Plate
  pub are_plates : ArePlates names headers k before plates
  pub takes : (j : ℕ) → j ≤ k → TakesFile (name_at names j) (tray_at before j) (tray_at after j)
  pub later : (j : ℕ) → k < j → j < length names
      → MayTakeFile (name_at names j) (tray_at before j) (tray_at after j)
  pub others : (j : ℕ) → length names ≤ j → tray_at after j ≡ tray_at before j
  pub calm : (j : ℕ) → j < k → IsCalm before after j

-- Where no plate is refused, this is so.
abbrev pub JudgingEnds : Type 0
JudgingEnds = (names : List (List ℕ)) (headers : List Header) (before after : List TrayState)
    → length names ≤ length headers → JudgesPlates names headers before after (Ok tt)
    → AreJudged names headers before after

-- Where plate k is refused, whatever for, this is so.
abbrev pub JudgingStops : Type 0
JudgingStops = (names : List (List ℕ)) (headers : List Header) (k : ℕ) (common_error : PlateError)
    (before after : List TrayState) → length names ≤ length headers
    → RefusesFirst names headers k common_error before after
    → AreJudgedTo names headers k before after
