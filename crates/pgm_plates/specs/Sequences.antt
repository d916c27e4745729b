-- Plate files that stand one directly after the other, and what it means to read one of them.
use Rattle.std.specs.Prelude.{◌≡◌, ℕ, ◌+◌, ◌<◌, ◌≤◌, IsTrue, List, [], ◌∷◌, ◌++◌, length, Option}
use Rattle.std.specs.Prelude.{Some, None, Result, Ok, Err}
use Rattle.outside.specs.ErrorCases.{Rose, Asks}
use Rattle.outside.specs.Tray.{TrayState, KeepsTray}
use Rattle.pgm_plates.specs.declared.plate.Plate.{Plate}
use Rattle.pgm_plates.specs.declared.plate.PlateFault.{PlateFault}
use Rattle.pgm_plates.specs.declared.plate.PlateFault.TheVariants.{BadMagic, BadHeader, SideRange}
use Rattle.pgm_plates.specs.declared.plate.PlateFault.TheVariants.{TooManySamples, MaxvalRange}
use Rattle.pgm_plates.specs.declared.plate.PlateFault.TheVariants.{SampleAboveMaxval, Truncated}
use Rattle.pgm_plates.specs.declared.plate.PlateFault.TheVariants.{TrailingBytes}
use Rattle.pgm_plates.specs.declared.plate.PlateError.{PlateError}
use Rattle.pgm_plates.specs.declared.plate.PlateError.TheVariants.{Fault, ReadFault, OutOfMemory}
use Rattle.pgm_plates.specs.Faults.{IsFault}
use Rattle.pgm_plates.specs.Plates.{IsPlateFile}
use Rattle.pgm_plates.specs.Reading.{AreFew, AtEnd, IsTruncated, KeepsCount}

-- The bytes are plate files of these plates, one directly after the other.
abbrev pub IsSequence : List ℕ → List Plate → Type 0
IsSequence bytes [] = bytes ≡ []
IsSequence bytes (plate ∷ plates) = (image later : List ℕ) × (bytes ≡ image ++ later)
    × IsPlateFile image plate × IsSequence later plates

-- At most `most` plate files stand at the beginning of the bytes, and these others after them.
pub record StandsAfter (bytes : List ℕ) (most : ℕ) (image : List ℕ) : Type 0 where
  pub prefix : List ℕ
  pub plates : List Plate
  pub sequence : IsSequence prefix plates
  pub few : length plates ≤ most
  pub whole : bytes ≡ prefix ++ image

-- No more bytes than these are read where the plate of that number is asked for: at most that many
-- plate files, and of the next one no more than of a file of one plate.
abbrev pub AreFewOfPage : ℕ → List ℕ → Type 0
AreFewOfPage page bytes = (image : List ℕ) × StandsAfter bytes page image × AreFew image

-- the same fault, n bytes further on
abbrev pub further : ℕ → PlateFault → PlateFault
further n (BadMagic at) = BadMagic (n + at)
further n (BadHeader at) = BadHeader (n + at)
further n (SideRange at) = SideRange (n + at)
further n (TooManySamples at) = TooManySamples (n + at)
further n (MaxvalRange at) = MaxvalRange (n + at)
further n (SampleAboveMaxval at) = SampleAboveMaxval (n + at)
further n (Truncated at) = Truncated (n + at)
further n (TrailingBytes at) = TrailingBytes (n + at)

-- What stands after an image is no fault of it, and where nothing stands there is none.
abbrev pub IsOfImage : PlateFault → Type 0
IsOfImage (TrailingBytes at) = ⊥
IsOfImage (Truncated at) = 0 < at
IsOfImage other = Unit {0}

-- What the answer says of the bytes that were taken, where the plate of that number is asked for.
abbrev pub AnswersPage : ℕ → List ℕ → TrayState → TrayState → Result (Option Plate) PlateError
    → Type 0
AnswersPage page bytes before after (Ok (Some plate)) = IsTrue after.begun × (image : List ℕ)
    × (s : StandsAfter bytes page image) × (length s.plates ≡ page) × IsPlateFile image plate
AnswersPage page bytes before after (Ok None) =
    IsTrue after.begun × StandsAfter bytes page [] × AtEnd before after
AnswersPage page bytes before after (Err (Fault fault)) = IsTrue after.begun × (image : List ℕ)
    × (s : StandsAfter bytes page image) × (found : PlateFault) × IsFault image found
    × IsOfImage found × (fault ≡ further (length s.prefix) found)
    × (IsTruncated found → AtEnd before after)
AnswersPage page bytes before after (Err ReadFault) = Rose before.faults after.faults
    × (image : List ℕ) × StandsAfter bytes page image
    × ((fault : PlateFault) → IsFault image fault → IsTruncated fault)
AnswersPage page bytes before after (Err OutOfMemory) = IsTrue after.begun

-- The file of that name is begun, and some bytes are taken off its beginning, which the answer
-- fits.
pub record ReadsPage (name : List ℕ) (page : ℕ) (before after : TrayState)
    (result : Result (Option Plate) PlateError) : Type 0 where
  pub keeps : KeepsTray before after
  pub asked : Asks before.asked after.asked (name ∷ [])
  pub bytes : List ℕ
  pub taken : IsTrue after.begun → IsTrue before.tells
      → before.file name ≡ Some (bytes ++ after.left)
  pub few : AreFewOfPage page bytes
  pub answer : AnswersPage page bytes before after result
  pub count : KeepsCount before after result
