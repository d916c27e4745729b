-- What the parts of the reader do. No public clause cites this file.
use Rattle.std.specs.Prelude.{◌≡◌, ℕ, ◌+◌, ◌*◌, ◌<◌, ◌≤◌, List, [], ◌∷◌, ◌++◌, length, take}
use Rattle.std.specs.Prelude.{◌-◌, nat_lt, if◌then◌else◌, map, slice_index, Result, Ok, Err}
use Rattle.std.specs.List.{All}
use Rattle.outside.specs.ErrorCases.{Rose}
use Rattle.outside.specs.Tray.{TrayState}
use Rattle.outside.specs.Reading.{Takes}
use Rattle.pgm_plates.specs.declared.bounds.Bounds.{Bounds}
use Rattle.pgm_plates.specs.declared.header.Header.{Header}
use Rattle.pgm_plates.specs.declared.plate.Plate.{Plate}
use Rattle.pgm_plates.specs.declared.plate.PlateFault.TheVariants.{SampleAboveMaxval, Truncated}
use Rattle.pgm_plates.specs.declared.plate.PlateFault.TheVariants.{TrailingBytes}
use Rattle.pgm_plates.specs.declared.plate.PlateError.{PlateError}
use Rattle.pgm_plates.specs.declared.plate.PlateError.TheVariants.{Fault, ReadFault, OutOfMemory}
use Rattle.pgm_plates.specs.declared.rows.OpenPlate.{OpenPlate}
use Rattle.pgm_plates.specs.declared.values.Form.{Form}
use Rattle.pgm_plates.specs.declared.values.Form.TheVariants.{Samples, Tints}
use Rattle.pgm_plates.specs.declared.values.Values.{Values}
use Rattle.pgm_plates.specs.Header.{IsHeader}
use Rattle.page_model.specs.Limits.{most_maxval}
use Rattle.pgm_plates.specs.Limits.{most_header, samples_within}
use Rattle.pgm_plates.specs.Plates.{IsSideWithin, sample_bytes, sample_size, raster}
use Rattle.pgm_plates.specs.Reading.{AreFew, AnswersPlate, AtEnd}
use Rattle.pgm_plates.specs.Rows.{plate_with}
use Rattle.pgm_plates.specs.Scanning.{IsClean}

-- Some bytes are taken, which the answer fits.
pub record Answers (bounds : Bounds) (before after : TrayState)
    (result : Result Plate PlateError) : Type 0 where
  pub bytes : List ℕ
  pub takes : Takes bytes before after
  pub few : AreFew bytes
  pub answer : AnswersPlate bounds bytes before after result

-- A whole header without a fault is taken, of `count` bytes.
pub record HeaderRead (bounds : Bounds) (before after : TrayState) (header : Header)
    (count : ℕ) : Type 0 where
  pub bytes : List ℕ
  pub takes : Takes bytes before after
  pub is_header : IsHeader bytes header.width header.height header.maxval
  pub clean : IsClean bounds bytes (length bytes + 1)
  pub size : length bytes ≡ count
  pub short : count ≤ most_header
  pub width : IsSideWithin bounds header.width
  pub height : IsSideWithin bounds header.height
  pub product : header.width * header.height ≤ samples_within bounds
  pub positive : 0 < header.maxval
  pub maxval : header.maxval ≤ most_maxval

abbrev pub ReadsHeader : Bounds → TrayState → TrayState → Result (Header × ℕ) PlateError → Type 0
ReadsHeader bounds before after (Ok r) = HeaderRead bounds before after r.0 r.1
ReadsHeader bounds before after (Err error) = Answers bounds before after (Err error)

abbrev pub OpensPlate : Bounds → TrayState → TrayState → Result OpenPlate PlateError → Type 0
OpensPlate bounds before after (Ok plate) = HeaderRead bounds before after plate.header plate.size
OpensPlate bounds before after (Err error) = Answers bounds before after (Err error)

abbrev pub Fit : ℕ → List ℕ → Type 0
Fit maxval samples = All (λ (s : ℕ). s ≤ maxval) samples

-- the samples of two bytes each that these bytes spell
abbrev pub wide_samples : List ℕ → List ℕ
wide_samples (high ∷ low ∷ bytes) = (high * 256 + low) ∷ wide_samples bytes
wide_samples other = []

-- the whole samples that these bytes spell
abbrev pub samples_spelled : ℕ → List ℕ → List ℕ
samples_spelled maxval bytes = if nat_lt maxval 256 then bytes else wide_samples bytes

-- samples that fit, and a byte of one more or none
pub record IsPart (maxval count : ℕ) (bytes : List ℕ) : Type 0 where
  pub samples : List ℕ
  pub half : List ℕ
  pub whole : bytes ≡ raster maxval samples ++ half
  pub fit : Fit maxval samples
  pub short : length half < sample_size maxval
  pub few : length samples + length half ≤ count

-- samples that fit, then one at that place that doesn't, and what was taken after it
pub record IsAbove (maxval count : ℕ) (bytes : List ℕ) (place : ℕ) : Type 0 where
  pub samples : List ℕ
  pub sample : ℕ
  pub more : List ℕ
  pub whole : bytes ≡ raster maxval samples ++ sample_bytes maxval sample ++ more
  pub fit : Fit maxval samples
  pub above : maxval < sample
  pub at : place ≡ length (raster maxval samples)
  pub few : length samples < count
  pub within : length bytes ≤ count * sample_size maxval

-- What an error in a raster of `count` samples says, which begins at `start` in the file.
abbrev pub RasterRefused : ℕ → ℕ → ℕ → TrayState → TrayState → PlateError → Type 0
RasterRefused maxval count start before after (Fault (SampleAboveMaxval at)) = (bytes : List ℕ)
    × (place : ℕ) × Takes bytes before after × IsAbove maxval count bytes place
    × (at ≡ start + place)
RasterRefused maxval count start before after (Fault (Truncated at)) = (bytes : List ℕ)
    × Takes bytes before after × IsPart maxval count bytes
    × (length bytes < count * sample_size maxval) × (at ≡ start + length bytes) × AtEnd before after
RasterRefused maxval count start before after ReadFault = (bytes : List ℕ)
    × Takes bytes before after × IsPart maxval count bytes × Rose before.faults after.faults
RasterRefused maxval count start before after OutOfMemory =
    (bytes : List ℕ) × Takes bytes before after × (length bytes ≤ count * sample_size maxval)
RasterRefused maxval count start before after other = ⊥

-- All samples are taken.
pub record RasterTaken (maxval count : ℕ) (before after : TrayState)
    (samples : List ℕ) : Type 0 where
  pub takes : Takes (raster maxval samples) before after
  pub fit : Fit maxval samples
  pub all : length samples ≡ count

abbrev pub ReadsPiece : ℕ → ℕ → ℕ → TrayState → TrayState → Result (Unit {0}) PlateError → List ℕ
    → Type 0
ReadsPiece maxval count start before after (Ok done) samples =
    RasterTaken maxval count before after samples
ReadsPiece maxval count start before after (Err error) samples =
    RasterRefused maxval count start before after error

-- the samples that some values are, by their form
abbrev pub samples_from : Form → ℕ → List ℕ → List ℕ
samples_from Samples maxval values = values
samples_from Tints maxval values = map (λ v. maxval - v) values

-- the plate of which these values were read
abbrev pub plate_from : Form → Values → Plate
plate_from form read = plate_with read.header (samples_from form read.header.maxval read.values)

-- the same, beside a number
abbrev pub image_from : Form → (Values × ℕ) → (Plate × ℕ)
image_from form read = (plate_from form read.0, read.1)

-- what is found after the raster
abbrev pub EndsFile : ℕ → TrayState → TrayState → Result (Unit {0}) PlateError → Type 0
EndsFile at before after (Ok done) = Takes [] before after × AtEnd before after
EndsFile at before after (Err (Fault (TrailingBytes place))) =
    (last : ℕ) × Takes (last ∷ []) before after × (place ≡ at)
EndsFile at before after (Err ReadFault) = Takes [] before after × Rose before.faults after.faults
EndsFile at before after (Err other) = ⊥

abbrev pub ReadsRaster : ℕ → ℕ → ℕ → TrayState → TrayState → Result (List ℕ) PlateError → Type 0
ReadsRaster maxval count start before after (Ok samples) =
    RasterTaken maxval count before after samples
ReadsRaster maxval count start before after (Err error) =
    RasterRefused maxval count start before after error

-- the bytes of samples, and a byte of one more or none
pub record IsDecoded (maxval : ℕ) (bytes samples : List ℕ) : Type 0 where
  pub half : List ℕ
  pub whole : bytes ≡ raster maxval samples ++ half
  pub short : length half < sample_size maxval

-- What is read of a piece whose bytes are these, however many samples it has room for.
abbrev pub JudgesPiece : ℕ → List ℕ → ℕ → TrayState → TrayState → Result (Unit {0}) PlateError
    → Type 0
JudgesPiece maxval bytes start before after result =
    (count : ℕ) → length bytes ≡ count * sample_size maxval
    → ReadsPiece maxval count start before after result (samples_spelled maxval bytes)

-- A number of samples is read, whatever they are, or they are refused.
abbrev pub ReadsUnkept : ℕ → ℕ → ℕ → TrayState → TrayState → Result (Unit {0}) PlateError
    → Type 0
ReadsUnkept maxval count start before after result =
    (samples : List ℕ) × ReadsPiece maxval count start before after result samples

-- the first sample that does not fit
pub record FirstAbove (maxval : ℕ) (samples : List ℕ) (place : ℕ) : Type 0 where
  pub within : place < length samples
  pub fit : Fit maxval (take place samples)
  pub above : maxval < slice_index samples place
