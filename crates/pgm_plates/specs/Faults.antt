-- The faults of bytes that are no plate file. Each has a moment, the number of bytes that decide
-- it, and the fault of the least moment is reported.
use Rattle.std.specs.Prelude.{◌≡◌, ◌⊎◌, ℕ, ◌+◌, ◌*◌, ◌<◌, ◌≤◌, IsFalse, List, [], ◌∷◌, ◌++◌, length}
use Rattle.std.specs.Prelude.{take}
use Rattle.pgm_plates.specs.declared.bounds.Bounds.{Bounds}
use Rattle.pgm_plates.specs.declared.bounds.Bounds.TheVariants.{Page}
use Rattle.pgm_plates.specs.declared.plate.Plate.{Plate}
use Rattle.pgm_plates.specs.declared.plate.PlateFault.{PlateFault}
use Rattle.pgm_plates.specs.declared.plate.PlateFault.TheVariants.{BadMagic, BadHeader, SideRange}
use Rattle.pgm_plates.specs.declared.plate.PlateFault.TheVariants.{TooManySamples, MaxvalRange}
use Rattle.pgm_plates.specs.declared.plate.PlateFault.TheVariants.{SampleAboveMaxval, Truncated}
use Rattle.pgm_plates.specs.declared.plate.PlateFault.TheVariants.{TrailingBytes}
use Rattle.pgm_plates.specs.Header.{is_digit, IsGap, IsNumber, Numbers, IsHeader, IsShape, IsBegun}
use Rattle.page_model.specs.Limits.{most_maxval}
use Rattle.pgm_plates.specs.Limits.{most_header, samples_within}
use Rattle.pgm_plates.specs.Plates.{IsSideWithin, sample_bytes, raster, IsPlateFileWithin}

-- no shape of a header lies at the beginning of the bytes
abbrev pub HoldsNoHeader : List ℕ → Type 0
HoldsNoHeader bytes = (k : ℕ) → IsShape (take k bytes) → ⊥

-- The last of these bytes, the one at that place, can't stand there in a header.
pub record Breaks (bytes : List ℕ) (at : ℕ) : Type 0 where
  pub prefix : List ℕ
  pub last : ℕ
  pub whole : bytes ≡ prefix ++ last ∷ []
  pub place : length prefix ≡ at
  pub begun : IsBegun prefix
  pub unended : HoldsNoHeader prefix
  pub broken : IsBegun bytes → ⊥

-- The bytes end with a number of the header, whose first digit is at that place, and with one byte
-- more, which ends the number and may stand there. The earlier numbers are listed from the last to
-- the first.
pub record EndsNumber (bytes : List ℕ) (at number : ℕ) (earlier : List ℕ) : Type 0 where
  pub prefix : List ℕ
  pub gap : List ℕ
  pub digits : List ℕ
  pub next : ℕ
  pub whole : bytes ≡ prefix ++ gap ++ digits ++ next ∷ []
  pub numbers : Numbers prefix earlier
  pub is_gap : IsGap gap
  pub place : length (prefix ++ gap) ≡ at
  pub is_number : IsNumber digits number
  pub ended : IsFalse (is_digit next)
  pub begun : IsBegun bytes

-- The number that ends before the last of these bytes is out of range.
abbrev pub NumberFault : Bounds → List ℕ → PlateFault → Type 0
NumberFault bounds bytes (SideRange at) = (side : ℕ) × (earlier : List ℕ)
    × EndsNumber bytes at side earlier × (length earlier < 2) × (IsSideWithin bounds side → ⊥)
NumberFault bounds bytes (TooManySamples at) = (width height : ℕ)
    × EndsNumber bytes at height (width ∷ []) × IsSideWithin bounds width
    × IsSideWithin bounds height × (samples_within bounds < width * height)
NumberFault bounds bytes (MaxvalRange at) = (width height maxval : ℕ)
    × EndsNumber bytes at maxval (height ∷ width ∷ []) × ((maxval ≡ 0) ⊎ (most_maxval < maxval))
NumberFault bounds bytes other = ⊥

-- A header, some of its samples, and then one above the maxval, which begins at that place.
pub record EndsAboveMaxval (bytes : List ℕ) (at : ℕ) : Type 0 where
  pub header : List ℕ
  pub width : ℕ
  pub height : ℕ
  pub maxval : ℕ
  pub samples : List ℕ
  pub sample : ℕ
  pub is_header : IsHeader header width height maxval
  pub within : length samples < width * height
  pub whole : bytes ≡ header ++ raster maxval samples ++ sample_bytes maxval sample
  pub place : length (header ++ raster maxval samples) ≡ at
  pub above : maxval < sample

-- A header, all of its samples, and one byte more, which stands at that place.
pub record EndsAfterRaster (bytes : List ℕ) (at : ℕ) : Type 0 where
  pub header : List ℕ
  pub width : ℕ
  pub height : ℕ
  pub maxval : ℕ
  pub samples : List ℕ
  pub last : ℕ
  pub is_header : IsHeader header width height maxval
  pub all : length samples ≡ width * height
  pub whole : bytes ≡ header ++ raster maxval samples ++ last ∷ []
  pub place : length (header ++ raster maxval samples) ≡ at

-- These are as many bytes as a header may have, which begin one and hold none, and no number
-- that ends with them is out of range.
pub record EndsTooLong (bounds : Bounds) (bytes : List ℕ) : Type 0 where
  pub long : length bytes ≡ most_header
  pub begun : IsBegun bytes
  pub unended : HoldsNoHeader bytes
  pub no_number : (fault : PlateFault) → NumberFault bounds bytes fault → ⊥

-- The last of these bytes decides the fault.
abbrev pub DecidesWithin : Bounds → List ℕ → PlateFault → Type 0
DecidesWithin bounds bytes (BadMagic at) = (at < 2) × Breaks bytes at
DecidesWithin bounds bytes (BadHeader at) =
    ((2 ≤ at) × Breaks bytes at) ⊎ ((at ≡ most_header) × EndsTooLong bounds bytes)
DecidesWithin bounds bytes (SampleAboveMaxval at) = EndsAboveMaxval bytes at
DecidesWithin bounds bytes (TrailingBytes at) = EndsAfterRaster bytes at
DecidesWithin bounds bytes (Truncated at) = ⊥
DecidesWithin bounds bytes fault = NumberFault bounds bytes fault

abbrev pub Decides : List ℕ → PlateFault → Type 0
Decides = DecidesWithin Page

-- The bytes end before they are a whole plate; this is decided by their end, after the last of
-- them.
pub record EndsEarly (bounds : Bounds) (bytes : List ℕ) (moment at : ℕ) : Type 0 where
  pub place : at ≡ length bytes
  pub late : moment ≡ length bytes + 1
  pub no_plate : (plate : Plate) → IsPlateFileWithin bounds bytes plate → ⊥

-- The fault stands at that moment.
abbrev pub FaultAtWithin : Bounds → List ℕ → ℕ → PlateFault → Type 0
FaultAtWithin bounds bytes moment (Truncated at) = EndsEarly bounds bytes moment at
FaultAtWithin bounds bytes moment fault =
    (moment ≤ length bytes) × DecidesWithin bounds (take moment bytes) fault

abbrev pub FaultAt : List ℕ → ℕ → PlateFault → Type 0
FaultAt = FaultAtWithin Page

-- The fault is the one of the least moment.
pub record IsFaultWithin (bounds : Bounds) (bytes : List ℕ) (fault : PlateFault) : Type 0 where
  pub moment : ℕ
  pub stands : FaultAtWithin bounds bytes moment fault
  pub first : (m : ℕ) (other : PlateFault) → FaultAtWithin bounds bytes m other → moment ≤ m

abbrev pub IsFault : List ℕ → PlateFault → Type 0
IsFault = IsFaultWithin Page
