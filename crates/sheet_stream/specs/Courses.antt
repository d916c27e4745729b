-- The course of a sheet that streams: what is read, written and counted of it by then.
use Rattle.std.specs.Prelude.{◌≡◌, ℕ, ◌+◌, ◌*◌, ◌<◌, ◌≤◌, List, [], length, Result, Ok, Err, Some}
use Rattle.sheet_geometry.specs.Areas.{traps}
use Rattle.sheet_geometry.specs.Begun.{BeginsWith}
use Rattle.sheet_geometry.specs.StripCores.{new_from}
use Rattle.outside.specs.Rack.{RackState}
use Rattle.outside.specs.Tray.{TrayState}
use Rattle.page_model.specs.declared.parts.PageParts.{PageParts}
use Rattle.page_model.specs.Page.{height, plates, width}
use Rattle.pgm_plates.specs.declared.rows.OpenPlate.{OpenPlate}
use Rattle.pgm_plates.specs.Rows.{samples_of}
use Rattle.plate_rows.specs.Images.{BreaksRows, HaveWritten}
use Rattle.plate_rows.specs.Laws.{header_of}
use Rattle.plate_rows.specs.Rereading.{HaveRead, StopsBegun}
use Rattle.plate_rows.specs.Trays.{open_at}
use Rattle.plate_rows.specs.declared.error.RereadError.{RereadError}
use Rattle.common_errors.specs.declared.common.CommonError.{CommonError}
use Rattle.common_errors.specs.declared.common.CommonError.TheVariants.{Write}
use Rattle.sheet_stream.specs.declared.workspace.StreamWorkspace.{StreamWorkspace}
use Rattle.sheet_stream.specs.declared.error.StreamError.{StreamError}
use Rattle.sheet_stream.specs.declared.error.StreamError.TheVariants.{Unread, Unwritten}
use Rattle.sheet_stream.specs.Going.{IsStripRow, core_top, gone_on}
use Rattle.sheet_stream.specs.Reading.{HoldsTo}
use Rattle.sheet_stream.specs.Waiting.{PlatesOpen, WritesRow}
use Rattle.sheet_stream.specs.Growing.{new_rows}
use Rattle.sheet_stream.specs.RowReading.{tints_for}
use Rattle.sheet_stream.specs.StoredStrips.{IsStripOf}
use Rattle.sheet_stream.specs.Writing.{RowsAreWritten}
use Rattle.sheet_geometry.specs.declared.spans.Span.{Span}
use Rattle.sheet_geometry.specs.Spans.{even_wide}
use Rattle.sheet_stream.specs.declared.parts.StripPlan.{StripPlan}
use Rattle.sheet_engine.specs.Works.{AreNone}
use Rattle.sheet_engine.specs.Growth.{AddsArea}
use Rattle.sheet_engine.specs.declared.counts.SheetCounts.{SheetCounts}

-- How a second reading began: the names of the files, and the trays and racks as they were.
pub record Course : Type 0 where
  pub inputs : List (List ℕ)
  pub outputs : List (List ℕ)
  pub trays : List TrayState
  pub racks : List RackState

-- What is so of each sheet that begins with these samples.
abbrev pub OfEach : PageParts → (ℕ → List ℕ) → (PageParts → Type 0) → Type 0
OfEach outline samples Fact =
    (sheet : PageParts) → BeginsWith outline (tints_for outline samples) sheet → Fact sheet

-- The new tints of `rows` rows are written.
abbrev pub RowsStand : Course → PageParts → StripPlan → ℕ → List RackState → PageParts → Type 0
RowsStand course outline plan rows racks sheet =
    RowsAreWritten course.outputs plan.header (plates outline) sheet rows course.racks racks

-- What was counted since all counts were 0 is what is counted in `rows` rows.
abbrev pub RowsCount : SheetCounts → SheetCounts → ℕ → PageParts → Type 0
RowsCount none counts rows sheet = AddsArea sheet 0 0 (width sheet) rows none counts

-- The strip of these rows is read, and is at hand: of each sheet that begins with what was read so
-- far, the rows above its core are counted.
pub record HoldsAt (course : Course) (outline : PageParts) (plan : StripPlan)
    (begun : List OpenPlate) (none : SheetCounts) (row : Span) (trays : List TrayState)
    (workspace : StreamWorkspace) : Type 0 where
  pub at_hand : IsStripOf outline row workspace.strip
  pub holds : HoldsTo course.inputs outline begun (even_wide plan.down) (gone_on row) course.trays
      trays workspace.strip
  pub counted : OfEach outline holds.samples (RowsCount none workspace.counts (core_top row))

-- .. and they are written.
pub record StandsAt (course : Course) (outline : PageParts) (plan : StripPlan)
    (begun : List OpenPlate) (none : SheetCounts) (row : Span) (trays : List TrayState)
    (racks : List RackState) (workspace : StreamWorkspace) : Type 0 where
  pub at : HoldsAt course outline plan begun none row trays workspace
  pub written : OfEach outline at.holds.samples (RowsStand course outline plan (core_top row) racks)

-- some course leads there
pub record IsUnderWay (outline : PageParts) (plan : StripPlan) (begun : List OpenPlate)
    (row : Span) (trays : List TrayState) (racks : List RackState) (workspace : StreamWorkspace)
    : Type 0 where
  pub course : Course
  pub none : SheetCounts
  pub empty : AreNone outline none
  pub stands : StandsAt course outline plan begun none row trays racks workspace

-- .. whatever is written by then
pub record IsStored (outline : PageParts) (plan : StripPlan) (begun : List OpenPlate)
    (row : Span) (trays : List TrayState) (workspace : StreamWorkspace) : Type 0 where
  pub course : Course
  pub none : SheetCounts
  pub empty : AreNone outline none
  pub at : HoldsAt course outline plan begun none row trays workspace

-- The reading stops. Of each sheet that begins with what was read before, some first rows are
-- written.
pub record StopsUnread (course : Course) (outline : PageParts) (plan : StripPlan)
    (begun : List OpenPlate) (trays : List TrayState) (racks : List RackState)
    (error : RereadError) : Type 0 where
  pub stops : StopsBegun course.inputs (header_of begun) (length begun) course.trays trays error
  pub samples : ℕ → List ℕ
  pub between : List TrayState
  pub read : HaveRead course.inputs begun (length begun) samples course.trays between
  pub rows : ℕ
  pub few : rows ≤ height outline
  pub written : OfEach outline samples (RowsStand course outline plan rows racks)

-- Some rows of a sheet could not be written of plate k.
abbrev pub RowBreaks : Course → PageParts → StripPlan → ℕ → List RackState → PageParts → Type 0
RowBreaks course outline plan k racks sheet = (row n : ℕ) × (1 ≤ n) × (row + n ≤ height outline)
    × BreaksRows course.outputs plan.header (plates outline) k (λ c. new_rows sheet c row)
    (λ c. new_from traps sheet c (row * width sheet) (n * width sheet)) course.racks racks

-- The writing stops at plate k, of each sheet that begins with what was read.
pub record StopsUnwritten (course : Course) (outline : PageParts) (plan : StripPlan)
    (begun : List OpenPlate) (trays : List TrayState) (racks : List RackState)
    (k : ℕ) : Type 0 where
  pub samples : ℕ → List ℕ
  pub read : HaveRead course.inputs begun (length begun) samples course.trays trays
  pub written : OfEach outline samples (RowBreaks course outline plan k racks)

-- What a stop says of a course.
abbrev pub Errors : Course → PageParts → StripPlan → List OpenPlate → List TrayState
    → List RackState → StreamError → Type 0
Errors course outline plan begun trays racks (Unread error) =
    StopsUnread course outline plan begun trays racks error
Errors course outline plan begun trays racks (Unwritten (Write (Some k))) =
    StopsUnwritten course outline plan begun trays racks k
Errors course outline plan begun trays racks (Unwritten other) = ⊥

-- .. and they are written once the core of the strip before is, which waits for it; where that
-- fails, the course stops.
pub record AwaitsCore (course : Course) (outline : PageParts) (plan : StripPlan)
    (begun : List OpenPlate) (none : SheetCounts) (last row : Span) (trays : List TrayState)
    (racks : List RackState) (workspace : StreamWorkspace) : Type 0 where
  pub at : HoldsAt course outline plan begun none row trays workspace
  pub opened : PlatesOpen plan workspace.ahead racks
  pub written : (racks' : List RackState) → WritesRow plan last workspace.ahead racks racks' (Ok tt)
      → OfEach outline at.holds.samples (RowsStand course outline plan (core_top row) racks')
  pub unwritten : (racks' : List RackState) (common_error : CommonError)
      → WritesRow plan last workspace.ahead racks racks' (Err common_error)
      → Errors course outline plan begun trays racks' (Unwritten common_error)

-- some course leads there
pub record IsAwaiting (outline : PageParts) (plan : StripPlan) (begun : List OpenPlate)
    (last row : Span) (trays : List TrayState) (racks : List RackState) (workspace : StreamWorkspace)
    : Type 0 where
  pub course : Course
  pub none : SheetCounts
  pub empty : AreNone outline none
  pub awaits : AwaitsCore course outline plan begun none last row trays racks workspace

-- The plates are begun, and so are the files: their headers are read and written, and no more.
pub record Starts (course : Course) (outline : PageParts) (plan : StripPlan)
    (begun : List OpenPlate) (trays : List TrayState) (racks : List RackState) : Type 0 where
  pub read : HaveRead course.inputs begun (length begun) (λ k. []) course.trays trays
  pub written : HaveWritten course.outputs plan.header (plates outline) (λ c. []) course.racks racks

-- The sheet has streamed: all samples of its plates are read, and of each sheet that begins with
-- them all rows are written and counted.
pub record HasStreamed (course : Course) (outline : PageParts) (plan : StripPlan)
    (begun : List OpenPlate) (none counts : SheetCounts) (trays : List TrayState)
    (racks : List RackState) : Type 0 where
  pub samples : ℕ → List ℕ
  pub read : HaveRead course.inputs begun (length begun) samples course.trays trays
  pub all : (k : ℕ) → k < length begun
      → length (samples k) ≡ samples_of (open_at begun k).header
  pub written : OfEach outline samples (RowsStand course outline plan (height outline) racks)
  pub counted : OfEach outline samples (RowsCount none counts (height outline))

-- From where its plates and files are begun a sheet streams to its end, or to a stop.
abbrev pub Streams : PageParts → StripPlan → List OpenPlate → SheetCounts → SheetCounts
    → List TrayState → List TrayState → List RackState → List RackState
    → Result (Unit {0}) StreamError → Type 0
Streams outline plan begun none counts trays trays' racks racks' (Ok done) = (course : Course)
    → Starts course outline plan begun trays racks
    → HasStreamed course outline plan begun none counts trays' racks'
Streams outline plan begun none counts trays trays' racks racks' (Err error) = (course : Course)
    → Starts course outline plan begun trays racks
    → Errors course outline plan begun trays' racks' error

-- From where the plates and files are begun the first strip is read, or the reading stops.
abbrev pub BeginsAt : PageParts → StripPlan → List OpenPlate → Span → List TrayState
    → List TrayState → StreamWorkspace → StreamWorkspace → Result (Unit {0}) RereadError → Type 0
BeginsAt outline plan begun row trays trays' old new (Ok done) = (course : Course)
    (racks : List RackState) → Starts course outline plan begun trays racks
    → StandsAt course outline plan begun old.counts row trays' racks new
BeginsAt outline plan begun row trays trays' old new (Err error) = (course : Course)
    (racks : List RackState) → Starts course outline plan begun trays racks
    → StopsUnread course outline plan begun trays' racks error

-- The first strip is trapped and counted, and the next one is at hand.
abbrev pub GoesFirst : PageParts → StripPlan → List OpenPlate → Span → Span → List TrayState
    → List TrayState → StreamWorkspace → StreamWorkspace → Result (Unit {0}) RereadError → Type 0
GoesFirst outline plan begun row next trays trays' old new (Ok done) =
    (course : Course) (none : SheetCounts) (racks : List RackState)
    → StandsAt course outline plan begun none row trays racks old
    → AwaitsCore course outline plan begun none row next trays' racks new
GoesFirst outline plan begun row next trays trays' old new (Err error) =
    (course : Course) (none : SheetCounts) (racks : List RackState)
    → StandsAt course outline plan begun none row trays racks old
    → StopsUnread course outline plan begun trays' racks error

-- The core that waits is written, the strip at hand is trapped and counted, and the next one is at
-- hand, whatever course leads to it.
abbrev pub GoesOn : PageParts → StripPlan → List OpenPlate → Span → Span → Span
    → List TrayState → List TrayState → List RackState → List RackState
    → StreamWorkspace → StreamWorkspace → Result (Unit {0}) StreamError → Type 0
GoesOn outline plan begun last row next trays trays' racks racks' old new (Ok done) =
    (course : Course) (none : SheetCounts)
    → AwaitsCore course outline plan begun none last row trays racks old
    → AwaitsCore course outline plan begun none row next trays' racks' new
GoesOn outline plan begun last row next trays trays' racks racks' old new (Err error) =
    (course : Course) (none : SheetCounts)
    → AwaitsCore course outline plan begun none last row trays racks old
    → Errors course outline plan begun trays' racks' error

-- From the second strip on all strips are put but the last, which is at hand then.
abbrev pub Reaches : PageParts → StripPlan → List OpenPlate → Span → Span → List TrayState
    → List TrayState → List RackState → List RackState → StreamWorkspace → StreamWorkspace
    → Result Span StreamError → Type 0
Reaches outline plan begun last row trays trays' racks racks' old new (Ok end) =
    (course : Course) (none : SheetCounts)
    → AwaitsCore course outline plan begun none last row trays racks old
    → StandsAt course outline plan begun none end trays' racks' new
Reaches outline plan begun last row trays trays' racks racks' old new (Err error) =
    (course : Course) (none : SheetCounts)
    → AwaitsCore course outline plan begun none last row trays racks old
    → Errors course outline plan begun trays' racks' error

-- From the first strip on, the same.
abbrev pub ReachesLast : PageParts → StripPlan → List OpenPlate → Span → List TrayState
    → List TrayState → List RackState → List RackState → StreamWorkspace → StreamWorkspace
    → Result Span StreamError → Type 0
ReachesLast outline plan begun row trays trays' racks racks' old new (Ok end) =
    (course : Course) (none : SheetCounts)
    → StandsAt course outline plan begun none row trays racks old
    → StandsAt course outline plan begun none end trays' racks' new
ReachesLast outline plan begun row trays trays' racks racks' old new (Err error) =
    (course : Course) (none : SheetCounts)
    → StandsAt course outline plan begun none row trays racks old
    → Errors course outline plan begun trays' racks' error

-- a strip below which there is none
pub record IsLastRow (plan : StripPlan) (row : Span) : Type 0 where
  pub hand : IsStripRow plan.down row
  pub last : plan.down.side ≤ core_top row + row.core

-- The strip at hand and all strips below it are trapped, counted and written, or that stops.
abbrev pub Finishes : PageParts → StripPlan → List OpenPlate → Span → List TrayState
    → List TrayState → List RackState → List RackState → StreamWorkspace → StreamWorkspace
    → Result (Unit {0}) StreamError → Type 0
Finishes outline plan begun row trays trays' racks racks' old new (Ok done) =
    (course : Course) (none : SheetCounts)
    → StandsAt course outline plan begun none row trays racks old
    → HasStreamed course outline plan begun none new.counts trays' racks'
Finishes outline plan begun row trays trays' racks racks' old new (Err error) =
    (course : Course) (none : SheetCounts)
    → StandsAt course outline plan begun none row trays racks old
    → Errors course outline plan begun trays' racks' error

-- some course starts so
pub record IsStarted (outline : PageParts) (plan : StripPlan) (begun : List OpenPlate)
    (trays : List TrayState) (racks : List RackState) : Type 0 where
  pub course : Course
  pub starts : Starts course outline plan begun trays racks
