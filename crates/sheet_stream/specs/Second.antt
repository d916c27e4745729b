-- A second reading of a sheet's plates, and what is written by the time it ends or stops.
use Rattle.std.specs.Prelude.{◌≡◌, ◌≢◌, ◌⊎◌, ℕ, ◌<◌, ◌≤◌, ◌^◌, IsTrue, List, [], length, Result}
use Rattle.std.specs.Prelude.{Ok, Err, Some}
use Rattle.outside.specs.declared.tray.DeviceError.{DeviceError}
use Rattle.outside.specs.Rack.{RackState}
use Rattle.outside.specs.Tray.{TrayState}
use Rattle.outside.specs.Writing.{WritesFile}
use Rattle.page_model.specs.declared.parts.PageParts.{PageParts}
use Rattle.page_model.specs.Page.{height, maxval, plates, width}
use Rattle.page_model.specs.Tints.{new_tints}
use Rattle.pgm_plates.specs.declared.bounds.Bounds.TheVariants.{Sheet}
use Rattle.pgm_plates.specs.declared.header.Header.{Header}
use Rattle.pgm_plates.specs.declared.rows.OpenPlate.{OpenPlate}
use Rattle.pgm_plates.specs.Reading.{ReadsPlateWithin}
use Rattle.pgm_plates.specs.Limits.{most_header}
use Rattle.pgm_plates.specs.Rows.{plate_with, samples_of, spelled_so_far}
use Rattle.plate_rows.specs.Images.{AreWritten, EndsImages}
use Rattle.plate_rows.specs.Racks.{rack_at}
use Rattle.plate_rows.specs.Rereading.{EndsPlates, HaveRead, StopsReading}
use Rattle.plate_rows.specs.Trays.{EachTray, IsCalm, TakesFiles, name_at}
use Rattle.plate_rows.specs.declared.error.RereadError.{RereadError}
use Rattle.common_errors.specs.declared.common.CommonError.TheVariants.{Write}
use Rattle.sheet_stream.specs.declared.error.StreamError.{StreamError}
use Rattle.sheet_stream.specs.declared.error.StreamError.TheVariants.{Unread, Unwritten}
use Rattle.sheet_stream.specs.Courses.{Course, OfEach, Starts}
use Rattle.sheet_stream.specs.RowReading.{HaveHeader}
use Rattle.sheet_stream.specs.Writing.{StandsInPart}
use Rattle.sheet_stream.specs.declared.parts.StripPlan.{StripPlan}
use Rattle.sheet_engine.specs.Whole.{IsCounted}
use Rattle.sheet_engine.specs.declared.counts.SheetCounts.{SheetCounts}

-- the header that each plate of a sheet has
abbrev pub sheet_header : PageParts → Header
sheet_header sheet =
    record { width = width sheet; height = height sheet; maxval = maxval sheet }

-- The plates were begun once more, with the sheet's header still, and these samples were read of
-- each by then.
pub record WasRead (course : Course) (outline : PageParts) : Type 0 where
  pub begun : List OpenPlate
  pub headers : HaveHeader outline begun
  pub samples : ℕ → List ℕ
  pub between : List TrayState
  pub read : HaveRead course.inputs begun (length begun) samples course.trays between

-- the bytes of plate k of a sheet that is trapped
abbrev pub plate_bytes : Header → PageParts → ℕ → List ℕ
plate_bytes header sheet k = spelled_so_far header (new_tints sheet k)

-- A rack is as it was, or of its plate a prefix stands.
abbrev pub MayStand : Course → Header → PageParts → ℕ → List RackState → Type 0
MayStand course header sheet k racks = (rack_at racks k ≡ rack_at course.racks k)
    ⊎ StandsInPart (name_at course.outputs k) (plate_bytes header sheet k)
    (rack_at course.racks k) (rack_at racks k)

-- So are all racks.
pub record PartsStand (course : Course) (outline : PageParts) (header : Header)
    (racks : List RackState) (sheet : PageParts) : Type 0 where
  pub each : (k : ℕ) → k < plates outline → MayStand course header sheet k racks
  pub others : (k : ℕ) → plates outline ≤ k → rack_at racks k ≡ rack_at course.racks k

-- Plate k could not be written whole. Of each other plate the whole stands, or a prefix, or its
-- rack is as it was.
pub record PlateBreaks (course : Course) (outline : PageParts) (header : Header) (k : ℕ)
    (racks : List RackState) (sheet : PageParts) : Type 0 where
  pub known : k < plates outline
  pub failed : DeviceError
  pub here : WritesFile {T = Unit {0}} (name_at course.outputs k) (plate_bytes header sheet k)
      (rack_at course.racks k) (rack_at racks k) (Err failed)
  pub each : (j : ℕ) → j < plates outline → j ≢ k → MayStand course header sheet j racks
      ⊎ WritesFile {T = Unit {0}} {E = DeviceError} (name_at course.outputs j)
      (plate_bytes header sheet j) (rack_at course.racks j) (rack_at racks j) (Ok tt)
  pub others : (j : ℕ) → plates outline ≤ j → rack_at racks j ≡ rack_at course.racks j

-- Each plate was read whole once more; of each sheet that begins with what was read, which is all
-- of it, each file is written whole, and everything is counted.
pub record IsDone (course : Course) (outline : PageParts) (header : Header) (counts : SheetCounts)
    (trays : List TrayState) (racks : List RackState) : Type 0 where
  pub was : WasRead course outline
  pub whole : EachTray (plates outline) (λ k before after. ReadsPlateWithin Sheet
      (name_at course.inputs k) before after
      (Ok (plate_with (sheet_header outline) (was.samples k)))) course.trays trays
  pub written : OfEach outline was.samples (λ sheet. AreWritten course.outputs header (plates outline)
      (new_tints sheet) course.racks racks)
  pub counted : OfEach outline was.samples (λ sheet. IsCounted sheet counts)

-- The reading stopped once files were created, which is after each plate was opened again: of each
-- plate a prefix stands at most.
pub record IsUnread (course : Course) (outline : PageParts) (header : Header)
    (trays : List TrayState) (racks : List RackState) (error : RereadError) : Type 0 where
  pub was : WasRead course outline
  pub stops : StopsReading course.inputs (λ k. sheet_header outline) (plates outline) course.trays trays
      error
  pub takes : TakesFiles course.inputs (plates outline) course.trays trays
  pub written : OfEach outline was.samples (PartsStand course outline header racks)

-- The writing of plate k failed; no fault of a tray was passed over.
pub record IsUnwritten (course : Course) (outline : PageParts) (header : Header)
    (trays : List TrayState) (racks : List RackState) (k : ℕ) : Type 0 where
  pub was : WasRead course outline
  pub takes : TakesFiles course.inputs (plates outline) course.trays trays
  pub calm : (j : ℕ) → IsCalm course.trays trays j
  pub written : OfEach outline was.samples (PlateBreaks course outline header k racks)

-- The plates and the files are begun; this is what comes of it.
abbrev pub ComesTo : Course → PageParts → Header → SheetCounts → List TrayState → List RackState
    → Result (Unit {0}) StreamError → Type 0
ComesTo course outline header counts trays racks (Ok done) =
    IsDone course outline header counts trays racks
ComesTo course outline header counts trays racks (Err (Unread error)) =
    IsUnread course outline header trays racks error
ComesTo course outline header counts trays racks (Err (Unwritten (Write (Some k)))) =
    IsUnwritten course outline header trays racks k
ComesTo course outline header counts trays racks (Err (Unwritten other)) = ⊥

-- .. from wherever that began
abbrev pub EndsCourse : PageParts → StripPlan → List OpenPlate → SheetCounts → List TrayState
    → List TrayState → List RackState → List RackState → Result (Unit {0}) StreamError → Type 0
EndsCourse outline plan begun counts trays trays' racks racks' result = (course : Course)
    → Starts course outline plan begun trays racks
    → ComesTo course outline plan.header counts trays' racks' result

-- a course that begins now
abbrev pub course_of : List (List ℕ) → List (List ℕ) → List TrayState → List RackState → Course
course_of inputs outputs trays racks =
    record { inputs = inputs; outputs = outputs; trays = trays; racks = racks }

-- Plates that are begun: each was begun once more, wherever that was.
pub record IsBegun (begun : List OpenPlate) (trays : List TrayState) : Type 0 where
  pub inputs : List (List ℕ)
  pub start : List TrayState
  pub read : HaveRead inputs begun (length begun) (λ k. []) start trays

-- After plates that are begun, their files are created and written.
abbrev pub WritesBegun : List (List ℕ) → PageParts → StripPlan → List OpenPlate → SheetCounts
    → List TrayState → List TrayState → List RackState → List RackState
    → Result (Unit {0}) StreamError → Type 0
WritesBegun outputs outline plan begun counts trays trays' racks racks' result =
    (inputs : List (List ℕ)) (start : List TrayState)
    → HaveRead inputs begun (length begun) (λ k. []) start trays
    → ComesTo (course_of inputs outputs start racks) outline plan.header counts trays' racks' result

-- A plate of which all samples may be read.
pub record CanEnd (plate : OpenPlate) (tray : TrayState) : Type 0 where
  pub is_begun : IsTrue tray.begun
  pub short : plate.size ≤ most_header
  pub few : samples_of plate.header ≤ 2 ^ 36

-- The plates are ended, and then the files.
abbrev pub EndsBoth : List OpenPlate → List TrayState → List TrayState → List RackState
    → List RackState → Result (Unit {0}) StreamError → Type 0
EndsBoth begun trays trays' racks racks' (Ok done) =
    EndsPlates begun trays trays' (Ok tt) × EndsImages (length begun) racks racks' (Ok tt)
EndsBoth begun trays trays' racks racks' (Err (Unread error)) =
    EndsPlates begun trays trays' (Err error) × (racks' ≡ racks)
EndsBoth begun trays trays' racks racks' (Err (Unwritten common_error)) =
    EndsPlates begun trays trays' (Ok tt)
    × EndsImages (length begun) racks racks' (Err common_error)

-- Before a file is created the reading may stop, with all racks as they were.
abbrev pub StreamsSheet : Course → PageParts → Header → SheetCounts → List TrayState
    → List RackState → Result (Unit {0}) StreamError → Type 0
StreamsSheet course outline header counts trays racks (Err (Unread error)) =
    (StopsReading course.inputs (λ k. sheet_header outline) (plates outline) course.trays trays error
    × (racks ≡ course.racks)) ⊎ IsUnread course outline header trays racks error
StreamsSheet course outline header counts trays racks other =
    ComesTo course outline header counts trays racks other
