-- What comes of a sheet that streams, and of the report after its plates.
use Rattle.std.specs.Prelude.{◌≡◌, ◌≢◌, ℕ, ◌<◌, ◌^◌, List, Some, None, Result, Ok, Err}
use Rattle.sheet_geometry.specs.Areas.{traps}
use Rattle.sheet_geometry.specs.Outline.{IsOutlineSheet, outline_sheet}
use Rattle.sheet_geometry.specs.declared.plan.Rulers.{Rulers}
use Rattle.outside.specs.Rack.{RackState}
use Rattle.outside.specs.Tray.{TrayState}
use Rattle.outside.specs.Writing.{WritesFile}
use Rattle.outside.specs.declared.tray.DeviceError.{DeviceError}
use Rattle.page_model.specs.declared.parts.PageParts.{PageParts}
use Rattle.page_model.specs.Page.{height, plates, width}
use Rattle.plate_rows.specs.Rereading.{StopsReading}
use Rattle.plate_rows.specs.declared.error.RereadError.{RereadError}
use Rattle.common_errors.specs.declared.common.CommonError.TheVariants.{Memory, Write}
use Rattle.sheet_geometry.specs.CommonErrors.{cut_fault}
use Rattle.sheet_files.specs.Errors.{error_of}
use Rattle.sheet_files.specs.declared.error.TrapsheetError.{TrapsheetError}
use Rattle.sheet_files.specs.declared.error.TrapsheetError.TheVariants.{Common}
use Rattle.sheet_stream.specs.Courses.{Course}
use Rattle.sheet_stream.specs.Second.{IsDone, IsUnread, IsUnwritten, sheet_header}
use Rattle.sheet_stream.specs.declared.error.StreamError.{StreamError}
use Rattle.sheet_stream.specs.declared.error.StreamError.TheVariants.{Unread, Unwritten}
use Rattle.sheet_geometry.specs.Plans.{AreRulersFor, AreSmall}
use Rattle.sheet_geometry.specs.Spans.{IsEvenRuler, IsRuler}
use Rattle.sheet_engine.specs.Whole.{IsCounted}
use Rattle.sheet_engine.specs.declared.counts.SheetCounts.{SheetCounts}
use Rattle.sheet_files.specs.Reporting.{sheet_report}
use Rattle.plate_rows.specs.Racks.{rack_at}

-- what it tells where something stops a sheet that streams
abbrev pub stream_error : StreamError → TrapsheetError
stream_error (Unread error) = error_of error
stream_error (Unwritten common_error) = Common common_error

-- A sheet that streams in strips by these rulers.
pub record StreamsBy (outline : PageParts) (rulers : Rulers) : Type 0 where
  pub valid : IsOutlineSheet outline
  pub blank : outline_sheet outline ≡ outline
  pub cut : cut_fault outline ≡ None
  pub narrow : width outline < 2 ^ 30
  pub low : height outline < 2 ^ 30
  pub fit : AreRulersFor traps outline rulers.across rulers.down
  pub small : AreSmall outline rulers.across rulers.down
  pub across : IsRuler rulers.across
  pub even : IsEvenRuler rulers.down

-- The report of each sheet that is bare so, and counted so, is written by the first rack.
pub record WritesReport (report : List ℕ) (outline : PageParts) (counts : SheetCounts)
    (before after : List RackState) (result : Result (Unit {0}) DeviceError) : Type 0 where
  pub here : (sheet : PageParts) → outline_sheet sheet ≡ outline → IsCounted sheet counts
      → WritesFile report (sheet_report sheet) (rack_at before 0) (rack_at after 0) result
  pub others : (k : ℕ) → k ≢ 0 → rack_at after k ≡ rack_at before k

-- So it is, or that fails.
pub data EndsReport (report : List ℕ) (outline : PageParts) (counts : SheetCounts)
    (before after : List RackState) (result : Result (Unit {0}) TrapsheetError) : Type 0 where
  wrote : result ≡ Ok tt → WritesReport report outline counts before after (Ok tt)
      → EndsReport report outline counts before after result
  broke : (failed : DeviceError) → result ≡ Err (Common (Write None))
      → WritesReport report outline counts before after (Err failed)
      → EndsReport report outline counts before after result

-- A sheet that was judged is read again, trapped and written by strips, and its report after its
-- plates: up to the first thing that stops it.
pub data StreamsOut (course : Course) (report : List ℕ) (outline : PageParts)
    (trays : List TrayState) (racks : List RackState)
    (result : Result (Unit {0}) TrapsheetError) : Type 0 where
  done : (counts : SheetCounts) (between : List RackState)
      → IsDone course outline (sheet_header outline) counts trays between
      → EndsReport report outline counts between racks result
      → StreamsOut course report outline trays racks result
  not_begun : (error : RereadError) → result ≡ Err (error_of error)
      → StopsReading course.inputs (λ k. sheet_header outline) (plates outline) course.trays trays error
      → racks ≡ course.racks → StreamsOut course report outline trays racks result
  unread : (error : RereadError) → result ≡ Err (error_of error)
      → IsUnread course outline (sheet_header outline) trays racks error
      → StreamsOut course report outline trays racks result
  unwritten : (k : ℕ) → result ≡ Err (Common (Write (Some k)))
      → IsUnwritten course outline (sheet_header outline) trays racks k
      → StreamsOut course report outline trays racks result
  no_memory : result ≡ Err (Common Memory) → trays ≡ course.trays → racks ≡ course.racks
      → StreamsOut course report outline trays racks result
