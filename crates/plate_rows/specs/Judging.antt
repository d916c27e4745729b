-- A first reading of plates, of which nothing is kept but the headers. Some are read side by side.
use Rattle.std.specs.Prelude.{◌≡◌, ◌≢◌, ◌⊎◌, ℕ, ◌+◌, ◌<◌, ◌≤◌, List, [], length, Some, Result, Ok}
use Rattle.std.specs.Prelude.{Err}
use Rattle.outside.specs.Tray.{TrayState}
use Rattle.pgm_plates.specs.declared.bounds.Bounds.TheVariants.{Sheet}
use Rattle.pgm_plates.specs.declared.header.Header.{Header}
use Rattle.pgm_plates.specs.declared.plate.PlateError.{PlateError}
use Rattle.pgm_plates.specs.declared.plate.PlateError.TheVariants.{Fault, ReadFault, OutOfMemory}
use Rattle.pgm_plates.specs.declared.rows.OpenPlate.{OpenPlate}
use Rattle.pgm_plates.specs.Reading.{ReadsPlateWithin}
use Rattle.pgm_plates.specs.Rows.{HasRead, plate_with}
use Rattle.common_errors.specs.declared.common.CommonError.{CommonError}
use Rattle.common_errors.specs.declared.common.CommonError.TheVariants.{Memory, Plate, Read}
use Rattle.plate_rows.specs.declared.judging.PlateErrorAt.{PlateErrorAt}
use Rattle.plate_rows.specs.Trays.{EachTray, header_at, name_at, tray_at}

-- The plate of that header is read to its end, whatever its samples are, or it is refused.
abbrev pub JudgesPlate : List ℕ → TrayState → TrayState → Result Header PlateError → Type 0
JudgesPlate name before after (Ok header) = (samples : List ℕ)
    × ReadsPlateWithin Sheet name before after (Ok (plate_with header samples))
JudgesPlate name before after (Err common_error) =
    ReadsPlateWithin Sheet name before after (Err common_error)

-- what judging a plate that is begun comes to
abbrev pub judged : OpenPlate → Result (Unit {0}) PlateError → Result Header PlateError
judged plate (Ok done) = Ok plate.header
judged plate (Err common_error) = Err common_error

-- After its header the rest of a plate is judged, wherever the reading began.
abbrev pub JudgesRest : OpenPlate → TrayState → TrayState → Result (Unit {0}) PlateError → Type 0
JudgesRest plate before after result = (name : List ℕ) (start : TrayState)
    → HasRead Sheet name start before plate []
    → JudgesPlate name start after (judged plate result)

-- plate k has that header, by the file of that name
abbrev pub Judges : List (List ℕ) → List Header → ℕ → TrayState → TrayState → Type 0
Judges names headers k before after =
    JudgesPlate (name_at names k) before after (Ok (header_at headers k))

-- plate k is refused so, by the file of that name
abbrev pub Refuses : List (List ℕ) → PlateError → ℕ → TrayState → TrayState → Type 0
Refuses names common_error k before after =
    ReadsPlateWithin Sheet (name_at names k) before after (Err common_error)

-- what plate k is refused for, with its number
abbrev pub error_at : ℕ → PlateError → CommonError
error_at k (Fault fault) = Plate k fault
error_at k ReadFault = Read (Some k)
error_at k OutOfMemory = Memory

-- The tray of a plate is as it was, or the plate was judged, whatever that came to.
abbrev pub MayJudge : List ℕ → TrayState → TrayState → Type 0
MayJudge name before after = (after ≡ before)
    ⊎ ((answer : Result Header PlateError) × JudgesPlate name before after answer)

-- Plate k is the first that is refused: each before it is judged. Those after it may have been
-- judged beside it, and the trays of no plate are as they were.
pub record RefusesFirst (names : List (List ℕ)) (headers : List Header) (k : ℕ)
    (common_error : PlateError) (before after : List TrayState) : Type 0 where
  pub known : k < length names
  pub each : (j : ℕ) → j < k → Judges names headers j (tray_at before j) (tray_at after j)
  pub here : Refuses names common_error k (tray_at before k) (tray_at after k)
  pub later : (j : ℕ) → k < j → j < length names
      → MayJudge (name_at names j) (tray_at before j) (tray_at after j)
  pub others : (j : ℕ) → length names ≤ j → tray_at after j ≡ tray_at before j

-- The plates of these files are judged, each by its own tray, or one is the first that is refused.
abbrev pub JudgesPlates : List (List ℕ) → List Header → List TrayState → List TrayState
    → Result (Unit {0}) CommonError → Type 0
JudgesPlates names headers before after (Ok done) =
    EachTray (length names) (Judges names headers) before after
JudgesPlates names headers before after (Err (Plate k fault)) =
    RefusesFirst names headers k (Fault fault) before after
JudgesPlates names headers before after (Err (Read (Some k))) =
    RefusesFirst names headers k ReadFault before after
JudgesPlates names headers before after (Err other) = ⊥

-- The same of some of the plates, of which the first that is refused is given by its number among
-- them. Memory is wanted for none.
abbrev pub JudgesShare : List (List ℕ) → List Header → List TrayState → List TrayState
    → Result (Unit {0}) PlateErrorAt → Type 0
JudgesShare names headers before after (Ok done) =
    EachTray (length names) (Judges names headers) before after
JudgesShare names headers before after (Err error) =
    RefusesFirst names headers error.plate error.plate_error before after
    × (error.plate_error ≢ OutOfMemory)

-- the first error of two shares, of which the first has that number of plates
abbrev pub first_error : ℕ → Result (Unit {0}) PlateErrorAt → Result (Unit {0}) PlateErrorAt
    → Result (Unit {0}) PlateErrorAt
first_error count (Err error) second = Err error
first_error count (Ok done) (Err error) =
    Err (record { plate = count + error.plate; plate_error = error.plate_error })
first_error count (Ok done) (Ok both) = Ok both
