-- What a sheet that streamed comes to.
use Rattle.std.proofs.Common.{◌≡◌, ℕ, ◌*◌, ◌<◌, ◌≤◌, List, length, Result, Some, None, Err, inl, inr, refl, ap, subst, arith}
use Rattle.sheet_geometry.specs.Outline.{IsOutlineSheet, outline_sheet}
use Rattle.sheet_geometry.proofs.BegunLemmas.{some_sheet}
use Rattle.outside.specs.Rack.{RackState}
use Rattle.outside.specs.Tray.{TrayState}
use Rattle.page_model.specs.declared.parts.PageParts.{PageParts}
use Rattle.page_model.specs.Page.{height, plates, width}
use Rattle.pgm_plates.specs.declared.header.Header.{Header}
use Rattle.plate_rows.specs.declared.error.RereadError.{RereadError}
use Rattle.common_errors.specs.declared.common.CommonError.{CommonError}
use Rattle.common_errors.specs.declared.common.CommonError.TheVariants.{Job, Memory, NoDetails, Page, Plate, Read, Usage, Write}
use Rattle.sheet_files.specs.declared.error.TrapsheetError.{TrapsheetError}
use Rattle.sheet_files.specs.declared.error.TrapsheetError.TheVariants.{Common}
use Rattle.sheet_stream.specs.Courses.{Course}
use Rattle.sheet_stream.specs.Second.{IsDone, StreamsSheet, sheet_header}
use Rattle.sheet_stream.specs.declared.error.StreamError.{StreamError}
use Rattle.sheet_stream.specs.declared.error.StreamError.TheVariants.{Unread, Unwritten}
use Rattle.sheet_stream.proofs.OnSheets.{may_begin}
use Rattle.sheet_stream.specs.RowReading.{tints_for}
use Rattle.sheet_engine.specs.declared.counts.SheetCounts.{SheetCounts}
use Rattle.sheet_files.specs.Reporting.{CountSome}
use Rattle.sheet_files.specs.Streaming.{EndsReport, StreamsOut, stream_error}
use Rattle.sheet_files.specs.Errors.{error_of}

-- some sheet has these counts
pub some_counted : (course : Course) (outline : PageParts) (header : Header) (counts : SheetCounts) (trays : List TrayState) (racks : List RackState) → IsOutlineSheet outline → outline_sheet outline ≡ outline → IsDone course outline header counts trays racks → CountSome outline counts
some_counted course outline header counts trays racks valid blank done =
    let was = done.was in
    let few : (c : ℕ) → c < plates outline → length (was.samples c) ≤ width outline * height outline = λ c l.
    (let e = was.headers.count in
    let here : c < length was.begun = omega (arith, l, e) in
    let a = (was.read.each c here).few in
    let h = ap (λ (h : Header). h.width * h.height) (was.headers.each c here) in
    omega (arith, a, h)) in
    let some = some_sheet outline (tints_for outline was.samples) valid blank (may_begin outline was.samples few) in
    record { sheet = some.0; same = some.1.same; counted = done.counted some.0 some.1 }

module _ (course : Course) (report : List ℕ) (outline : PageParts) (header : Header) (same : header ≡ sheet_header outline) (counts : SheetCounts) (trays : List TrayState) (racks : List RackState) where
  -- the plates are written, and the report after them
  pub was_done : IsDone course outline header counts trays racks → (after : List RackState) (result : Result (Unit {0}) TrapsheetError) → EndsReport report outline counts racks after result → StreamsOut course report outline trays after result
  was_done done after result ends = StreamsOut.done counts racks (subst (λ (h : Header). IsDone course outline h counts trays racks) same done) ends

  -- the reading stops
  was_unread : (error : RereadError) → StreamsSheet course outline header counts trays racks (Err (Unread error)) → StreamsOut course report outline trays racks (Err (error_of error))
  was_unread error ends = elim (subst (λ (h : Header). StreamsSheet course outline h counts trays racks (Err (Unread error))) same ends) [
    | inl before ↦ StreamsOut.not_begun error refl before.0 before.1
    | inr later ↦ StreamsOut.unread error refl later
  ]

  -- a plate could not be written
  broke_of : (common_error : CommonError) → StreamsSheet course outline (sheet_header outline) counts trays racks (Err (Unwritten common_error)) → StreamsOut course report outline trays racks (Err (Common common_error))
  broke_of (Write (Some k)) ends = StreamsOut.unwritten k refl ends
  broke_of (Write None) ends = absurd ends
  broke_of (Read file) ends = absurd ends
  broke_of (Job fault) ends = absurd ends
  broke_of (NoDetails plate) ends = absurd ends
  broke_of (Plate plate fault) ends = absurd ends
  broke_of (Page fault) ends = absurd ends
  broke_of Usage ends = absurd ends
  broke_of Memory ends = absurd ends

  was_unwritten : (common_error : CommonError) → StreamsSheet course outline header counts trays racks (Err (Unwritten common_error)) → StreamsOut course report outline trays racks (Err (Common common_error))
  was_unwritten common_error ends = broke_of common_error (subst (λ (h : Header). StreamsSheet course outline h counts trays racks (Err (Unwritten common_error))) same ends)

  -- something stops the sheet
  pub was_stopped : (error : StreamError) → StreamsSheet course outline header counts trays racks (Err error) → StreamsOut course report outline trays racks (Err (stream_error error))
  was_stopped (Unread error) ends = was_unread error ends
  was_stopped (Unwritten common_error) ends = was_unwritten common_error ends
