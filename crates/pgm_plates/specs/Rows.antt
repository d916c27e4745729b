-- A plate that is read row by row, and one that is written so: what was read or written so far,
-- and what the next call makes of it.
use Rattle.std.specs.Prelude.{◌≡◌, ℕ, ◌+◌, ◌*◌, ◌<◌, ◌≤◌, IsTrue, List, [], ◌++◌, length, Result}
use Rattle.std.specs.Prelude.{Ok, Err}
use Rattle.std.specs.List.{All}
use Rattle.outside.specs.declared.tray.DeviceError.{DeviceError}
use Rattle.outside.specs.Rack.{RackState, Creates}
use Rattle.outside.specs.Reading.{Takes}
use Rattle.outside.specs.Tray.{TrayState, Begins}
use Rattle.outside.specs.Writing.{WritesOn, WritesFile}
use Rattle.page_model.specs.Limits.{most_maxval}
use Rattle.page_model.specs.declared.parts.Plane.{Plane}
use Rattle.pgm_plates.specs.declared.bounds.Bounds.{Bounds}
use Rattle.pgm_plates.specs.declared.header.Header.{Header}
use Rattle.pgm_plates.specs.declared.plate.Plate.{Plate}
use Rattle.pgm_plates.specs.declared.plate.PlateError.{PlateError}
use Rattle.pgm_plates.specs.declared.rows.OpenPlate.{OpenPlate}
use Rattle.pgm_plates.specs.Header.{IsHeader}
use Rattle.pgm_plates.specs.Limits.{most_header, samples_within}
use Rattle.pgm_plates.specs.Planes.{plate_of}
use Rattle.pgm_plates.specs.Plates.{IsSideWithin, raster, spelled}
use Rattle.pgm_plates.specs.Reading.{ReadsPlateWithin}

-- how many samples a header promises
abbrev pub samples_of : Header → ℕ
samples_of header = header.width * header.height

-- the plate of a header and these samples
abbrev pub plate_with : Header → List ℕ → Plate
plate_with header samples =
    record {
      width = header.width;
      height = header.height;
      maxval = header.maxval;
      samples = samples;
    }

-- a header within the bounds
pub record IsWithin (bounds : Bounds) (header : Header) : Type 0 where
  pub width : IsSideWithin bounds header.width
  pub height : IsSideWithin bounds header.height
  pub product : samples_of header ≤ samples_within bounds
  pub positive : 0 < header.maxval
  pub maxval : header.maxval ≤ most_maxval

-- The file of that name was begun, and then its header and these samples were taken off its
-- beginning, which have no fault.
pub record HasRead (bounds : Bounds) (name : List ℕ) (before now : TrayState) (plate : OpenPlate)
    (samples : List ℕ) : Type 0 where
  pub begun : TrayState
  pub begins : Begins {T = Unit {0}} {E = DeviceError} name before begun (Ok tt)
  pub spelling : List ℕ
  pub is_header :
      IsHeader spelling plate.header.width plate.header.height plate.header.maxval
  pub size : length spelling ≡ plate.size
  pub short : plate.size ≤ most_header
  pub within : IsWithin bounds plate.header
  pub headed : TrayState
  pub head : Takes spelling begun headed
  pub rows : Takes (raster plate.header.maxval samples) headed now
  pub fit : All (λ s. s ≤ plate.header.maxval) samples
  pub few : length samples ≤ samples_of plate.header
  pub count : now.faults ≡ before.faults

-- Where a header is read, no sample is read yet; an error is that of the whole plate.
abbrev pub BeginsPlate : Bounds → List ℕ → TrayState → TrayState → Result OpenPlate PlateError
    → Type 0
BeginsPlate bounds name before after (Ok plate) = HasRead bounds name before after plate []
BeginsPlate bounds name before after (Err error) =
    ReadsPlateWithin bounds name before after (Err error)

-- These samples are read by now, or the plate is refused.
abbrev pub HasReadOr : Bounds → List ℕ → TrayState → TrayState → OpenPlate → List ℕ
    → Result (Unit {0}) PlateError → Type 0
HasReadOr bounds name before now plate samples (Ok done) =
    HasRead bounds name before now plate samples
HasReadOr bounds name before now plate samples (Err error) =
    ReadsPlateWithin bounds name before now (Err error)

-- After `done` samples that were read, these rows are read, wherever the reading began.
abbrev pub ReadsRows : OpenPlate → ℕ → List ℕ → TrayState → TrayState
    → Result (Unit {0}) PlateError → Type 0
ReadsRows plate done rows before after result =
    (bounds : Bounds) (name : List ℕ) (start : TrayState) (samples : List ℕ)
    → HasRead bounds name start before plate samples → length samples ≡ done
    → done + length rows ≤ samples_of plate.header
    → HasReadOr bounds name start after plate (samples ++ rows) result

-- After `done` samples that were read, `count` more are read, whatever they are.
abbrev pub ReadsSome : OpenPlate → ℕ → ℕ → TrayState → TrayState → Result (Unit {0}) PlateError
    → Type 0
ReadsSome plate done count before after result =
    (rows : List ℕ) × (length rows ≡ count) × ReadsRows plate done rows before after result

-- what the plate's reading comes to, by what stands after its raster
abbrev pub ended : Plate → Result (Unit {0}) PlateError → Result Plate PlateError
ended plate (Ok done) = Ok plate
ended plate (Err error) = Err error

-- After all its samples, wherever the reading began, the whole plate is read, or it is refused.
abbrev pub EndsPlate : OpenPlate → TrayState → TrayState → Result (Unit {0}) PlateError → Type 0
EndsPlate plate before after result =
    (bounds : Bounds) (name : List ℕ) (start : TrayState) (samples : List ℕ)
    → HasRead bounds name start before plate samples
    → length samples ≡ samples_of plate.header
    → ReadsPlateWithin bounds name start after (ended (plate_with plate.header samples) result)

-- the plane of a header and these tints
abbrev pub plane_with : Header → List ℕ → Plane
plane_with header tints =
    record { width = header.width; height = header.height; maxval = header.maxval; tints = tints }

-- the canonical spelling of a plate, as far as the samples of these tints
abbrev pub spelled_so_far : Header → List ℕ → List ℕ
spelled_so_far header tints = spelled (plate_of (plane_with header tints))

-- The file of that name was created, and the header and the samples of these tints were written
-- on it, and no more.
pub record HasWritten (name : List ℕ) (header : Header) (tints : List ℕ)
    (before now : RackState) : Type 0 where
  pub created : RackState
  pub creates : Creates {T = Unit {0}} {E = DeviceError} name before created (Ok tt)
  pub writes :
      WritesOn {T = Unit {0}} {E = DeviceError} (spelled_so_far header tints) created now (Ok tt)
  pub is_open : IsTrue now.is_open

-- Where the header is written, no tint is yet; where that fails, no plane of that header is
-- written whole.
abbrev pub BeginsImage : List ℕ → Header → RackState → RackState → Result (Unit {0}) DeviceError → Type 0
BeginsImage name header before after (Ok done) = HasWritten name header [] before after
BeginsImage name header before after (Err failed) = (tints : List ℕ)
    → WritesFile {T = Unit {0}} {E = DeviceError} name (spelled_so_far header tints) before after
    (Err failed)

-- These rows are written after the tints so far; where that fails, no plane that begins with
-- them is written whole.
abbrev pub WritesRows : Header → List ℕ → RackState → RackState → Result (Unit {0}) DeviceError → Type 0
WritesRows header rows before after (Ok done) =
    (name : List ℕ) (tints : List ℕ) (start : RackState) → HasWritten name header tints start before
    → HasWritten name header (tints ++ rows) start after
WritesRows header rows before after (Err failed) =
    (name : List ℕ) (tints more : List ℕ) (start : RackState)
    → HasWritten name header tints start before
    → WritesFile {T = Unit {0}} {E = DeviceError} name (spelled_so_far header (tints ++ (rows ++ more)))
    start after (Err failed)

-- The file is finished: what was written of it is the whole.
abbrev pub EndsImage : RackState → RackState → Result (Unit {0}) DeviceError → Type 0
EndsImage before after result =
    (name : List ℕ) (header : Header) (tints : List ℕ) (start : RackState)
    → HasWritten name header tints start before
    → WritesFile name (spelled_so_far header tints) start after result
