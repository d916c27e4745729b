-- What the reader of one image among others does. No public clause cites this file.
use Rattle.std.specs.Prelude.{◌≡◌, ℕ, ◌*◌, ◌<◌, ◌≤◌, ◌^◌, List, length, Option, Some, None, Result}
use Rattle.std.specs.Prelude.{Ok, Err}
use Rattle.outside.specs.Tray.{TrayState}
use Rattle.outside.specs.Reading.{Takes}
use Rattle.pgm_plates.specs.declared.bounds.Bounds.TheVariants.{Page}
use Rattle.pgm_plates.specs.declared.plate.Plate.{Plate}
use Rattle.pgm_plates.specs.declared.plate.PlateFault.{PlateFault}
use Rattle.pgm_plates.specs.declared.plate.PlateFault.TheVariants.{BadMagic, BadHeader, SideRange}
use Rattle.pgm_plates.specs.declared.plate.PlateFault.TheVariants.{TooManySamples, MaxvalRange}
use Rattle.pgm_plates.specs.declared.plate.PlateFault.TheVariants.{SampleAboveMaxval, Truncated}
use Rattle.pgm_plates.specs.declared.plate.PlateFault.TheVariants.{TrailingBytes}
use Rattle.pgm_plates.specs.declared.plate.PlateError.{PlateError}
use Rattle.pgm_plates.specs.declared.plate.PlateError.TheVariants.{Fault, ReadFault, OutOfMemory}
use Rattle.pgm_plates.specs.Plates.{IsPlateFile}
use Rattle.pgm_plates.specs.Reading.{AreFew, AtEnd}
use Rattle.pgm_plates.specs.Readers.{Answers}
use Rattle.pgm_plates.specs.Sequences.{IsSequence, AnswersPage, AreFewOfPage, further}

-- a fault of an image, with its place far below the end of the numbers
abbrev pub IsNear : PlateFault → Type 0
IsNear (BadMagic at) = at < 2 ^ 42
IsNear (BadHeader at) = at < 2 ^ 42
IsNear (SideRange at) = at < 2 ^ 42
IsNear (TooManySamples at) = at < 2 ^ 42
IsNear (MaxvalRange at) = at < 2 ^ 42
IsNear (SampleAboveMaxval at) = at < 2 ^ 42
IsNear (Truncated at) = at < 2 ^ 42
IsNear (TrailingBytes at) = ⊥

abbrev pub IsNearError : PlateError → Type 0
IsNearError (Fault fault) = IsNear fault
IsNearError ReadFault = Unit {0}
IsNearError OutOfMemory = Unit {0}

-- One image is taken, and its length is answered, or there is none.
abbrev pub ReadsImage : TrayState → TrayState → Result (Option (Plate × ℕ)) PlateError → Type 0
ReadsImage before after (Ok (Some read)) = (image : List ℕ) × Takes image before after
    × IsPlateFile image read.0 × (length image ≡ read.1) × AreFew image
ReadsImage before after (Ok None) =
    (nothing : List ℕ) × Takes nothing before after × (length nothing ≡ 0) × AtEnd before after
ReadsImage before after (Err error) = Answers Page before after (Err error)

-- `count` images were taken, of `size` bytes together.
pub record Passed (before now : TrayState) (count size : ℕ) : Type 0 where
  pub bytes : List ℕ
  pub plates : List Plate
  pub takes : Takes bytes before now
  pub sequence : IsSequence bytes plates
  pub counted : length plates ≡ count
  pub sized : length bytes ≡ size
  pub well : now.faults ≡ before.faults
  pub small : size ≤ count * 2 ^ 30

-- Some bytes are taken, which the answer fits.
pub record PageAnswers (page : ℕ) (before after : TrayState)
    (result : Result (Option Plate) PlateError) : Type 0 where
  pub bytes : List ℕ
  pub takes : Takes bytes before after
  pub few : AreFewOfPage page bytes
  pub answer : AnswersPage page bytes before after result

abbrev pub further_error : ℕ → PlateError → PlateError
further_error n (Fault fault) = Fault (further n fault)
further_error n ReadFault = ReadFault
further_error n OutOfMemory = OutOfMemory
