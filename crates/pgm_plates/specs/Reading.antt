-- What it means to read a plate from the file of a name.
use Rattle.std.specs.Prelude.{◌≡◌, ◌⊎◌, ℕ, ◌+◌, ◌*◌, ◌≤◌, IsTrue, List, [], ◌∷◌, ◌++◌, length, take}
use Rattle.std.specs.Prelude.{Some, Result, Ok, Err}
use Rattle.outside.specs.ErrorCases.{Rose, Asks}
use Rattle.outside.specs.Tray.{TrayState, KeepsTray}
use Rattle.pgm_plates.specs.declared.bounds.Bounds.{Bounds}
use Rattle.pgm_plates.specs.declared.bounds.Bounds.TheVariants.{Page}
use Rattle.pgm_plates.specs.declared.plate.Plate.{Plate}
use Rattle.pgm_plates.specs.declared.plate.PlateFault.{PlateFault}
use Rattle.pgm_plates.specs.declared.plate.PlateFault.TheVariants.{SampleAboveMaxval, Truncated}
use Rattle.pgm_plates.specs.declared.plate.PlateError.{PlateError}
use Rattle.pgm_plates.specs.declared.plate.PlateError.TheVariants.{Fault, ReadFault, OutOfMemory}
use Rattle.pgm_plates.specs.Header.{IsHeader}
use Rattle.pgm_plates.specs.Limits.{most_header}
use Rattle.pgm_plates.specs.Plates.{IsPlateFileWithin, sample_size}
use Rattle.pgm_plates.specs.Faults.{HoldsNoHeader, IsFaultWithin}

-- whether a fault is an early end
abbrev pub IsTruncated : PlateFault → Type 0
IsTruncated (Truncated at) = Unit {0}
IsTruncated other = ⊥

-- a header that is not too long, at most the bytes of its samples after it, and one byte more
pub record IsWithinPlate (bytes : List ℕ) : Type 0 where
  pub count : ℕ
  pub short : count ≤ most_header
  pub width : ℕ
  pub height : ℕ
  pub maxval : ℕ
  pub is_header : IsHeader (take count bytes) width height maxval
  pub few : length bytes ≤ count + width * height * sample_size maxval + 1

-- No more bytes than these are owed: as many as a header may have, where they hold none; else
-- the header, the raster and one byte.
abbrev pub AreFew : List ℕ → Type 0
AreFew bytes = ((length bytes ≤ most_header) × HoldsNoHeader bytes) ⊎ IsWithinPlate bytes

-- nothing of the file is left
abbrev pub AtEnd : TrayState → TrayState → Type 0
AtEnd before after = IsTrue before.tells → after.left ≡ []

-- What the answer says of the bytes that were taken.
abbrev pub AnswersPlate : Bounds → List ℕ → TrayState → TrayState → Result Plate PlateError
    → Type 0
AnswersPlate bounds bytes before after (Ok plate) =
    IsTrue after.begun × IsPlateFileWithin bounds bytes plate × AtEnd before after
AnswersPlate bounds bytes before after (Err (Fault fault)) =
    IsTrue after.begun × IsFaultWithin bounds bytes fault × (IsTruncated fault → AtEnd before after)
AnswersPlate bounds bytes before after (Err ReadFault) = Rose before.faults after.faults
    × ((fault : PlateFault) → IsFaultWithin bounds bytes fault → IsTruncated fault)
AnswersPlate bounds bytes before after (Err OutOfMemory) = IsTrue after.begun

-- No fault of the tray is passed over: the count stays at each answer but a read fault, and but
-- a sample above the maxval,
-- which may be among the bytes that came before a failed read.
abbrev pub KeepsCount : {T : Type 0} → TrayState → TrayState → Result T PlateError → Type 0
KeepsCount before after (Err ReadFault) = Unit {0}
KeepsCount before after (Err (Fault (SampleAboveMaxval at))) = Unit {0}
KeepsCount before after other = after.faults ≡ before.faults

-- The file of that name is begun, and some bytes are taken off its beginning, which the answer
-- fits.
pub record ReadsPlateWithin (bounds : Bounds) (name : List ℕ) (before after : TrayState)
    (result : Result Plate PlateError) : Type 0 where
  pub keeps : KeepsTray before after
  pub asked : Asks before.asked after.asked (name ∷ [])
  pub bytes : List ℕ
  pub taken : IsTrue after.begun → IsTrue before.tells
      → before.file name ≡ Some (bytes ++ after.left)
  pub few : AreFew bytes
  pub answer : AnswersPlate bounds bytes before after result
  pub count : KeepsCount before after result

abbrev pub ReadsPlate : List ℕ → TrayState → TrayState → Result Plate PlateError → Type 0
ReadsPlate = ReadsPlateWithin Page
