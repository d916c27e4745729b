-- The next strip is at hand, and the core of the strip that was trapped waits to be written.
use Rattle.std.proofs.Common.{◌≡◌, ◌+◌, List, length, Ok, Err, sym, subst, arith}
use Rattle.outside.specs.Rack.{RackState}
use Rattle.outside.specs.Tray.{TrayState}
use Rattle.page_model.specs.declared.parts.PageParts.{PageParts}
use Rattle.pgm_plates.specs.declared.rows.OpenPlate.{OpenPlate}
use Rattle.sheet_stream.specs.declared.workspace.StreamWorkspace.{StreamWorkspace}
use Rattle.sheet_stream.specs.Courses.{AwaitsCore, Course, HoldsAt, OfEach, RowsCount, RowsStand}
use Rattle.sheet_stream.specs.Going.{IsNextRow, IsStripRow, core_top, gone_on}
use Rattle.sheet_stream.specs.Reading.{ReadsRow}
use Rattle.sheet_stream.specs.Strips.{CanStream, IsSomeStrip}
use Rattle.sheet_stream.specs.Workspaces.{CanHoldStrip, IsStreamWorkspace}
use Rattle.sheet_stream.specs.Waiting.{IsWaiting, PlatesOpen, WritesRow}
use Rattle.sheet_stream.proofs.StepLemmas.{are_open, can_hold_still, counted_on, deep_is}
use Rattle.sheet_stream.proofs.ReadLemmas.{before}
use Rattle.sheet_stream.proofs.StepLemmas.{hand_cuttable, holds_then, line_long}
use Rattle.sheet_stream.proofs.ReadLemmas.{new_some, now}
use Rattle.sheet_stream.proofs.StepLemmas.{unwritten, written_on, written_then}
use Rattle.sheet_stream.specs.RowReading.{HaveHeader}
use Rattle.sheet_geometry.specs.declared.spans.Span.{Span}
use Rattle.sheet_stream.specs.declared.parts.StripPlan.{StripPlan}
use Rattle.sheet_stream.specs.Cores.{IsCutStrip}
use Rattle.sheet_stream.specs.OnSheet.{strip_cut}
use Rattle.sheet_stream.specs.Ready.{TrapsRow}
use Rattle.sheet_engine.specs.declared.counts.SheetCounts.{SheetCounts}

-- The strip at hand is trapped, the next one is read, and they change places.
module _ (outline : PageParts) (plan : StripPlan) (begun : List OpenPlate) (row next : Span)
    (can : CanStream outline plan) (headers : HaveHeader outline begun) (is : IsStripRow plan.down row)
    (is_next : IsNextRow plan.down (gone_on row) next) (old mid end : StreamWorkspace)
    (workspace : IsStreamWorkspace outline plan old) (trays trays' : List TrayState) (course : Course)
    (none : SheetCounts) (stands : HoldsAt course outline plan begun none row trays old)
    (traps : TrapsRow plan row old.strip old.windows mid.windows old.counts mid.counts)
    (reads : ReadsRow outline begun (gone_on row) next old.strip mid.ahead trays trays' (Ok tt))
    (strip : end.strip ≡ mid.ahead) (ahead : end.ahead ≡ old.strip)
    (trapped : end.core.windows ≡ mid.windows) where
  pub still_workspace : end.windows ≡ old.core.windows
      → length end.core.line.items ≡ length old.core.line.items
      → length end.core.bytes.items ≡ length old.core.bytes.items
      → length end.pieces.items ≡ length old.pieces.items → IsStreamWorkspace outline plan end
  still_workspace windows line bytes pieces = record {
    strip = subst (IsSomeStrip outline plan) (sym strip)
        (new_some outline plan begun (gone_on row) next can headers is_next old.strip workspace.strip
        trays trays' mid.ahead course.inputs course.trays stands.holds reads);
    ahead = subst (IsSomeStrip outline plan) (sym ahead) workspace.strip;
    one = subst (CanHoldStrip outline plan) (sym windows) workspace.other;
    other = subst (CanHoldStrip outline plan) (sym trapped)
        (can_hold_still outline plan begun row can is old trays course none stands old.windows
        mid.windows mid.counts traps workspace.one);
    line = (let l = workspace.line in omega (arith, line, l));
    bytes = (let b = workspace.bytes in omega (arith, bytes, b));
    pieces = (let b = workspace.pieces in omega (arith, pieces, b));
  }

  pub waits : length end.core.line.items ≡ length old.core.line.items
      → length end.core.bytes.items ≡ length old.core.bytes.items
      → IsWaiting plan row end.ahead end.core
  waits line bytes = subst (λ (s : PageParts). IsWaiting plan row s end.core) (sym ahead)
      (record {
        cuttable = hand_cuttable outline plan begun row can is old trays course none stands;
        cut = subst (IsCutStrip old.strip (strip_cut plan.across plan.down row)) (sym trapped)
            traps.cut;
        line = line_long outline plan begun row can is old trays course none stands
            (length end.core.line.items)
            (let l = workspace.line in omega (arith, line, l));
        bytes = (let b = workspace.bytes in omega (arith, bytes, b));
        deep = deep_is outline plan begun row can is old trays course none stands;
      })

  -- all rows above it are written
  module _ (counts : end.counts ≡ mid.counts) (racks : List RackState)
      (above : OfEach outline stands.holds.samples
      (RowsStand course outline plan (core_top row) racks)) where
    pub awaits : AwaitsCore course outline plan begun none row next trays' racks end
    awaits =
        let read = now outline plan begun (gone_on row) next can headers is_next old.strip
        workspace.strip trays trays' mid.ahead course.inputs course.trays stands.holds reads in
        let counted = counted_on outline plan begun row can is old trays course none stands
        old.windows mid.windows mid.counts traps in
        let are = are_open outline plan begun row can is old trays course none stands racks above in
        record {
          at = holds_then outline plan begun (gone_on row) next can headers is_next old.strip
              workspace.strip course none trays trays' mid.ahead stands.holds reads end strip
              (subst (λ (n : SheetCounts). OfEach outline stands.holds.samples
              (RowsCount none n (core_top row + row.core))) (sym counts) counted);
          opened = subst (λ (s : PageParts). PlatesOpen plan s racks) (sym ahead) are;
          written = λ after writes. written_then outline plan begun (gone_on row) next can headers
              is_next old.strip workspace.strip course none trays trays' mid.ahead stands.holds reads
              after (written_on outline plan begun row can is old trays course none stands racks
              above after
              (subst (λ (s : PageParts). WritesRow plan row s racks after (Ok tt)) ahead writes));
          unwritten = λ after common_error writes. unwritten outline plan begun row can is old trays
              course none stands racks above after trays' read.samples read.read
              (before outline plan begun (gone_on row) next can headers is_next old.strip
              workspace.strip trays trays' mid.ahead course.inputs course.trays stands.holds reads)
              common_error (subst (λ (s : PageParts). WritesRow plan row s racks after (Err common_error))
              ahead writes);
        }
