-- A strip that was trapped and whose core waits to be written, and what comes of that.
use Rattle.std.specs.Prelude.{◌≡◌, ◌*◌, ◌≤◌, List, length, Result, Ok, Err}
use Rattle.outside.specs.Rack.{RackState}
use Rattle.outside.specs.Tray.{TrayState}
use Rattle.page_model.specs.declared.parts.PageParts.{PageParts}
use Rattle.page_model.specs.Page.{maxval, plates, width}
use Rattle.pgm_plates.specs.declared.rows.OpenPlate.{OpenPlate}
use Rattle.common_errors.specs.declared.common.CommonError.{CommonError}
use Rattle.sheet_stream.specs.declared.rows.Progress.{Progress}
use Rattle.sheet_stream.specs.declared.error.StreamError.{StreamError}
use Rattle.sheet_stream.specs.declared.error.StreamError.TheVariants.{Unread, Unwritten}
use Rattle.sheet_stream.specs.Reading.{ReadsRow}
use Rattle.sheet_geometry.specs.declared.spans.Span.{Span}
use Rattle.sheet_stream.specs.declared.parts.StripPlan.{StripPlan}
use Rattle.sheet_stream.specs.declared.strip.CoreWorkspace.{CoreWorkspace}
use Rattle.sheet_stream.specs.Cores.{AreOpen, IsCutStrip, WritesCore}
use Rattle.sheet_stream.specs.OnSheet.{strip_cut}
use Rattle.sheet_geometry.specs.WindowSheets.{IsCuttable}

-- The strip of these rows was trapped in the room last, which its core can be written through.
pub record IsWaiting (plan : StripPlan) (row : Span) (strip : PageParts) (core : CoreWorkspace)
    : Type 0 where
  pub cuttable : IsCuttable strip
  pub cut : IsCutStrip strip (strip_cut plan.across plan.down row) core.windows
  pub line : plates strip * width strip ≤ length core.line.items
  pub bytes : 2 ≤ length core.bytes.items
  pub deep : plan.header.maxval ≡ maxval strip

-- something was written on the files of a strip's plates, and they are open
abbrev pub PlatesOpen : StripPlan → PageParts → List RackState → Type 0
PlatesOpen plan strip racks = AreOpen plan.header (plates strip) racks

-- the rows of the core of that strip are written, or that fails
abbrev pub WritesRow : StripPlan → Span → PageParts → List RackState → List RackState
    → Result (Unit {0}) CommonError → Type 0
WritesRow plan row strip racks racks' result = WritesCore (plates strip) plan.header strip
    (strip_cut plan.across plan.down row) racks racks' result

-- The core that waits is written; then the next strip is read, in the place of the one that waited.
abbrev pub WritesAndReads : PageParts → StripPlan → List OpenPlate → Progress → Span → Span
    → PageParts → PageParts → PageParts → List TrayState → List TrayState → List RackState
    → List RackState → Result (Unit {0}) StreamError → Type 0
WritesAndReads outline plan begun progress last next strip waiting new trays trays' racks racks'
    (Ok done) = WritesRow plan last waiting racks racks' (Ok tt)
    × ReadsRow outline begun progress next strip new trays trays' (Ok tt)
WritesAndReads outline plan begun progress last next strip waiting new trays trays' racks racks'
    (Err (Unread error)) = WritesRow plan last waiting racks racks' (Ok tt)
    × ReadsRow outline begun progress next strip new trays trays' (Err error)
WritesAndReads outline plan begun progress last next strip waiting new trays trays' racks racks'
    (Err (Unwritten common_error)) = WritesRow plan last waiting racks racks' (Err common_error)
    × (trays' ≡ trays)
