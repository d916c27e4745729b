-- A sheet that streams, from its first strip to its last.
use Rattle.std.proofs.Common.{◌≡◌, ℕ, ◌+◌, ◌*◌, ◌<◌, ◌≤◌, List, [], Result, Ok, Err, inl, refl, sym, ap, ◌∙◌, subst, arith, length}
use Rattle.sheet_geometry.specs.Areas.{traps}
use Rattle.sheet_geometry.specs.StripCores.{new_from}
use Rattle.outside.specs.Rack.{RackState}
use Rattle.outside.specs.Tray.{TrayState}
use Rattle.page_model.specs.declared.parts.PageParts.{PageParts}
use Rattle.page_model.specs.Page.{height, plates, width}
use Rattle.pgm_plates.specs.declared.header.Header.{Header}
use Rattle.pgm_plates.specs.declared.rows.OpenPlate.{OpenPlate}
use Rattle.pgm_plates.specs.Rows.{HasWritten}
use Rattle.plate_rows.specs.Racks.{rack_at}
use Rattle.plate_rows.specs.Rereading.{HaveRead}
use Rattle.plate_rows.specs.Trays.{name_at}
use Rattle.plate_rows.specs.declared.error.RereadError.{RereadError}
use Rattle.sheet_stream.specs.declared.workspace.StreamWorkspace.{StreamWorkspace}
use Rattle.sheet_stream.specs.declared.error.StreamError.{StreamError}
use Rattle.sheet_stream.specs.Courses.{AwaitsCore, BeginsAt, Course, Finishes, HasStreamed, OfEach, Reaches, ReachesLast, RowsCount, RowsStand, StandsAt, Starts, Streams}
use Rattle.sheet_stream.specs.Going.{IsNextRow, IsStripRow, core_top, not_begun}
use Rattle.sheet_stream.specs.Reading.{HoldsTo, ReadsRow}
use Rattle.sheet_stream.specs.Strips.{CanStream, IsSomeStrip}
use Rattle.sheet_stream.proofs.StepLemmas.{holds_then, written_then}
use Rattle.sheet_stream.proofs.ReadLemmas.{reading_stops}
use Rattle.sheet_stream.specs.Growing.{new_rows}
use Rattle.sheet_geometry.specs.declared.spans.Span.{Span}
use Rattle.sheet_geometry.specs.Spans.{even_wide}
use Rattle.sheet_stream.specs.RowReading.{HaveHeader}
use Rattle.sheet_stream.specs.declared.parts.StripPlan.{StripPlan}
use Rattle.sheet_engine.specs.declared.counts.SheetCounts.{SheetCounts}
use Rattle.sheet_engine.proofs.Growing.{area_none}

pub no_tall : (w : ℕ) → 0 ≡ 0 * w
no_tall w = omega arith

-- before the first strip nothing is read
abbrev pub holds_none : (inputs : List (List ℕ)) (outline : PageParts) (begun : List OpenPlate) (tall : ℕ) (start now : List TrayState) (strip : PageParts) → HaveRead inputs begun (length begun) (λ k. []) start now → HoldsTo inputs outline begun tall not_begun start now strip
holds_none inputs outline begun tall start now strip read = record { samples = λ k. []; read = read; count = λ k l. no_tall (width outline); stored = inl refl }

module _ (outline : PageParts) (plan : StripPlan) (begun : List OpenPlate) (row : Span) (can : CanStream outline plan) (headers : HaveHeader outline begun) (next : IsNextRow plan.down not_begun row) (old : StreamWorkspace) (at_hand : IsSomeStrip outline plan old.strip) (trays trays' : List TrayState) (new : PageParts) where
  no_rows : (sheet : PageParts) (c : ℕ) → [] ≡ new_rows sheet c 0
  no_rows sheet c = ap (new_from traps sheet c 0) (no_tall (width sheet))

  -- no row is written and counted
  module _ (course : Course) (racks : List RackState) (starts : Starts course outline plan begun trays racks) where
    none_written : OfEach outline (λ k. []) (RowsStand course outline plan 0 racks)
    none_written sheet is = record {
      each = λ k l. subst (λ (ts : List ℕ). HasWritten (name_at course.outputs k) plan.header ts (rack_at course.racks k) (rack_at racks k)) (no_rows sheet k) (starts.written.each k l);
      others = starts.written.others;
    }

    none_counted : (counts : SheetCounts) → OfEach outline (λ k. []) (RowsCount counts counts 0)
    none_counted counts sheet is = area_none sheet 0 0 (width sheet) counts

  -- the first strip is read
  pub begins_well : (end : StreamWorkspace) → ReadsRow outline begun not_begun row old.strip new trays trays' (Ok tt) → end.strip ≡ new → end.counts ≡ old.counts → BeginsAt outline plan begun row trays trays' old end (Ok tt)
  begins_well end reads same counts course racks starts =
      let holds = holds_none course.inputs outline begun (even_wide plan.down) course.trays trays old.strip starts.read in
      record {
        at = holds_then outline plan begun not_begun row can headers next old.strip at_hand course old.counts trays trays' new holds reads end same
            (subst (λ (c : SheetCounts). OfEach outline (λ k. []) (RowsCount old.counts c 0)) (sym counts) (none_counted course racks starts old.counts));
        written = written_then outline plan begun not_begun row can headers next old.strip at_hand course old.counts trays trays' new holds reads racks (none_written course racks starts);
      }

  -- .. or the reading stops
  pub begins_badly : (end : StreamWorkspace) (error : RereadError) → ReadsRow outline begun not_begun row old.strip new trays trays' (Err error) → BeginsAt outline plan begun row trays trays' old end (Err error)
  begins_badly end error reads course racks starts = record {
    stops = reading_stops outline plan begun not_begun row can headers next old.strip at_hand trays trays' new course.inputs course.trays (holds_none course.inputs outline begun (even_wide plan.down) course.trays trays old.strip starts.read) error reads;
    samples = λ k. [];
    between = trays;
    read = starts.read;
    rows = 0;
    few = omega arith;
    written = none_written course racks starts;
  }

-- after the last one
pub ends : (course : Course) (outline : PageParts) (plan : StripPlan) (begun : List OpenPlate) (none counts : SheetCounts) (row : Span) (trays : List TrayState) (racks racks' : List RackState) (workspace : StreamWorkspace) → CanStream outline plan → HaveHeader outline begun → IsStripRow plan.down row → plan.down.side ≤ core_top row + row.core → (stands : StandsAt course outline plan begun none row trays racks workspace) → OfEach outline stands.at.holds.samples (RowsStand course outline plan (core_top row + row.core) racks') → OfEach outline stands.at.holds.samples (RowsCount none counts (core_top row + row.core)) → HasStreamed course outline plan begun none counts trays racks'
ends course outline plan begun none counts row trays racks racks' workspace can headers is last stands written counted =
    let tall = can.rulers.tall in
    let core = is.span.core in
    let within = is.span.inside in
    let at : core_top row + row.core ≡ height outline = omega (arith, tall, core, within, last) in
    let all : row.from + row.wide ≡ height outline = omega (arith, tall, core, within, last) in
    record {
      samples = stands.at.holds.samples;
      read = stands.at.holds.read;
      all = λ k l. (let here : k < plates outline = (let e = headers.count in omega (arith, e, l)) in
          stands.at.holds.count k here ∙ ap (λ (n : ℕ). n * width outline) all ∙ (let e : height outline * width outline ≡ width outline * height outline = omega arith in e)
          ∙ sym (ap (λ (h : Header). h.width * h.height) (headers.each k l)));
      written = λ sheet begins. subst (λ (n : ℕ). RowsStand course outline plan n racks' sheet) at (written sheet begins);
      counted = λ sheet begins. subst (λ (n : ℕ). RowsCount none counts n sheet) at (counted sheet begins);
    }

-- from where the first strip is at hand, as from where it was begun
pub finished : (outline : PageParts) (plan : StripPlan) (begun : List OpenPlate) (first : Span) (none : SheetCounts) (trays trays' trays'' : List TrayState) (racks racks' : List RackState) (old new : StreamWorkspace) (result : Result (Unit {0}) StreamError) → Finishes outline plan begun first trays' trays'' racks racks' old new result → ((course : Course) → Starts course outline plan begun trays racks → StandsAt course outline plan begun none first trays' racks old) → Streams outline plan begun none new.counts trays trays'' racks racks' result
finished outline plan begun first none trays trays' trays'' racks racks' old new (Ok done) finishes stands = λ course starts. finishes course none (stands course starts)
finished outline plan begun first none trays trays' trays'' racks racks' old new (Err error) finishes stands = λ course starts. finishes course none (stands course starts)

-- from where the second strip is at hand, as from the first
pub reached : (outline : PageParts) (plan : StripPlan) (begun : List OpenPlate) (first second : Span) (trays trays' trays'' : List TrayState) (racks racks' : List RackState) (old mid new : StreamWorkspace) (result : Result Span StreamError) → Reaches outline plan begun first second trays' trays'' racks racks' mid new result → ((course : Course) (none : SheetCounts) → StandsAt course outline plan begun none first trays racks old → AwaitsCore course outline plan begun none first second trays' racks mid) → ReachesLast outline plan begun first trays trays'' racks racks' old new result
reached outline plan begun first second trays trays' trays'' racks racks' old mid new (Ok end) reaches leads = λ course none stands. reaches course none (leads course none stands)
reached outline plan begun first second trays trays' trays'' racks racks' old mid new (Err error) reaches leads = λ course none stands. reaches course none (leads course none stands)
