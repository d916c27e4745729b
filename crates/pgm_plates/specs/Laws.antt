-- Laws of plate files, of their faults and of the canonical spelling.
use Rattle.std.specs.Prelude.{◌≡◌, ◌⊎◌, ℕ, ◌<◌, IsTrue, List, [], ◌++◌, length, take, Some, Ok, Err}
use Rattle.std.specs.List.{All}
use Rattle.outside.specs.Tray.{TrayState}
use Rattle.page_model.specs.Conditions.{IsPlane}
use Rattle.page_model.specs.declared.parts.Plane.{Plane}
use Rattle.pgm_plates.specs.declared.bounds.Bounds.{Bounds}
use Rattle.pgm_plates.specs.declared.bounds.Bounds.TheVariants.{Page, Sheet}
use Rattle.pgm_plates.specs.declared.header.Header.{Header}
use Rattle.pgm_plates.specs.declared.plate.Plate.{Plate}
use Rattle.pgm_plates.specs.declared.plate.PlateFault.{PlateFault}
use Rattle.pgm_plates.specs.declared.plate.PlateError.TheVariants.{Fault}
use Rattle.pgm_plates.specs.declared.rows.OpenPlate.{OpenPlate}
use Rattle.pgm_plates.specs.Plates.{IsPlateWithin, IsPlateFileWithin, spelled}
use Rattle.pgm_plates.specs.Planes.{plane_of, plate_of}
use Rattle.pgm_plates.specs.Faults.{IsFaultWithin}
use Rattle.pgm_plates.specs.Reading.{IsTruncated, ReadsPlateWithin}
use Rattle.pgm_plates.specs.Rows.{HasRead}
use Rattle.pgm_plates.specs.Sequences.{IsSequence}

-- Bytes are a plate file or have a fault.
abbrev pub PlateOrFaultWithin : Bounds → Type 0
PlateOrFaultWithin bounds = (bytes : List ℕ) → All (λ b. b < 256) bytes
    → ((plate : Plate) × IsPlateFileWithin bounds bytes plate)
    ⊎ ((fault : PlateFault) × IsFaultWithin bounds bytes fault)

abbrev pub PlateOrFault : Type 0
PlateOrFault = PlateOrFaultWithin Page

-- A plate file has no fault.
abbrev pub NotBothWithin : Bounds → Type 0
NotBothWithin bounds = (bytes : List ℕ) (plate : Plate) (fault : PlateFault)
    → IsPlateFileWithin bounds bytes plate → IsFaultWithin bounds bytes fault → ⊥

abbrev pub NotBoth : Type 0
NotBoth = NotBothWithin Page

-- A plate file has one plate.
abbrev pub OnePlateWithin : Bounds → Type 0
OnePlateWithin bounds =
    (bytes : List ℕ) (one two : Plate) → IsPlateFileWithin bounds bytes one
    → IsPlateFileWithin bounds bytes two → one ≡ two

abbrev pub OnePlate : Type 0
OnePlate = OnePlateWithin Page

-- Bytes have at most one fault.
abbrev pub OneFaultWithin : Bounds → Type 0
OneFaultWithin bounds =
    (bytes : List ℕ) (one two : PlateFault) → IsFaultWithin bounds bytes one
    → IsFaultWithin bounds bytes two → one ≡ two

abbrev pub OneFault : Type 0
OneFault = OneFaultWithin Page

-- No plate file is a proper prefix of another.
abbrev pub NoPrefixWithin : Bounds → Type 0
NoPrefixWithin bounds = (bytes more : List ℕ) (one two : Plate) → IsPlateFileWithin bounds bytes one
    → IsPlateFileWithin bounds (bytes ++ more) two → more ≡ []

abbrev pub NoPrefix : Type 0
NoPrefix = NoPrefixWithin Page

-- Bytes are plate files of one list of plates at most, one directly after the other.
abbrev pub OneSequence : Type 0
OneSequence = (bytes : List ℕ) (one two : List Plate) → IsSequence bytes one → IsSequence bytes two
    → one ≡ two

-- A fault stays, whatever comes after the bytes that have it, but for an early end.
abbrev pub FaultStaysWithin : Bounds → Type 0
FaultStaysWithin bounds = (bytes more : List ℕ) (fault : PlateFault) → (IsTruncated fault → ⊥)
    → IsFaultWithin bounds bytes fault → IsFaultWithin bounds (bytes ++ more) fault

abbrev pub FaultStays : Type 0
FaultStays = FaultStaysWithin Page

-- The canonical spelling of a plate is a plate file of it.
abbrev pub SpelledReadsWithin : Bounds → Type 0
SpelledReadsWithin bounds =
    (plate : Plate) → IsPlateWithin bounds plate → IsPlateFileWithin bounds (spelled plate) plate

abbrev pub SpelledReads : Type 0
SpelledReads = SpelledReadsWithin Page

-- A plate that is turned into a plane and back is as before.
abbrev pub TurnsBackWithin : Bounds → Type 0
TurnsBackWithin bounds =
    (plate : Plate) → IsPlateWithin bounds plate → plate_of (plane_of plate) ≡ plate

abbrev pub TurnsBack : Type 0
TurnsBack = TurnsBackWithin Page

-- A plane that is turned into a plate and back is as before.
abbrev pub PlaneTurnsBack : Type 0
PlaneTurnsBack = (plane : Plane) → IsPlane plane → plane_of (plate_of plane) ≡ plane

-- A plate that is read is the one that the whole file spells, where the tray tells its bytes.
abbrev pub FilePlateWithin : Bounds → Type 0
FilePlateWithin bounds = (name : List ℕ) (before after : TrayState) (plate : Plate)
    → ReadsPlateWithin bounds name before after (Ok plate) → IsTrue before.tells
    → (all : List ℕ) × (before.file name ≡ Some all) × IsPlateFileWithin bounds all plate

abbrev pub FilePlate : Type 0
FilePlate = FilePlateWithin Page

-- A fault that is answered is the one of the whole file, where the tray tells its bytes.
abbrev pub FileFaultWithin : Bounds → Type 0
FileFaultWithin bounds = (name : List ℕ) (before after : TrayState) (fault : PlateFault)
    → ReadsPlateWithin bounds name before after (Err (Fault fault)) → IsTrue before.tells
    → (all : List ℕ) × (before.file name ≡ Some all) × IsFaultWithin bounds all fault

abbrev pub FileFault : Type 0
FileFault = FileFaultWithin Page

-- Each plate file of a page is one of a sheet.
abbrev pub PageInSheet : Type 0
PageInSheet = (bytes : List ℕ) (plate : Plate) → IsPlateFileWithin Page bytes plate
    → IsPlateFileWithin Sheet bytes plate

-- the header of a plate, and its first samples
pub record IsTopOf (plate : Plate) (header : Header) (samples : List ℕ) : Type 0 where
  pub width : header.width ≡ plate.width
  pub height : header.height ≡ plate.height
  pub maxval : header.maxval ≡ plate.maxval
  pub first : samples ≡ take (length samples) plate.samples

-- What was read row by row so far is the top of the plate that the whole file spells, where the
-- tray tells its bytes.
abbrev pub TopOfFileWithin : Bounds → Type 0
TopOfFileWithin bounds = (name : List ℕ) (before now : TrayState) (open_plate : OpenPlate)
    (samples all : List ℕ) (plate : Plate) → HasRead bounds name before now open_plate samples
    → IsTrue before.tells → before.file name ≡ Some all → IsPlateFileWithin bounds all plate
    → IsTopOf plate open_plate.header samples
