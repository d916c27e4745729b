-- One step of a sheet that streams: the next strip is read, and the strip at hand is put.
use Rattle.std.proofs.Common.{◌≡◌, ℕ, ◌+◌, ◌*◌, ◌-◌, ◌<◌, ◌≤◌, List, length, Some, None, Ok, Err, inl, inr, sym, ◌∙◌, subst, arith}
use Rattle.std.proofs.Math.Nat.{mul-le-mul}
use Rattle.sheet_geometry.specs.Begun.{BeginsWith, MayBegin}
use Rattle.outside.specs.Rack.{RackState}
use Rattle.outside.specs.Tray.{TrayState}
use Rattle.page_model.specs.declared.parts.PageParts.{PageParts}
use Rattle.page_model.specs.Page.{height, maxval, plates, width}
use Rattle.pgm_plates.specs.declared.rows.OpenPlate.{OpenPlate}
use Rattle.plate_rows.specs.Images.{HaveWritten}
use Rattle.plate_rows.specs.Rereading.{HaveRead}
use Rattle.common_errors.specs.declared.common.CommonError.{CommonError}
use Rattle.common_errors.specs.declared.common.CommonError.TheVariants.{Job as JobFails, Memory, NoDetails, Page, Plate, Read, Usage, Write}
use Rattle.sheet_stream.specs.declared.workspace.StreamWorkspace.{StreamWorkspace}
use Rattle.sheet_stream.specs.declared.rows.Progress.{Progress}
use Rattle.sheet_stream.specs.declared.error.StreamError.{StreamError}
use Rattle.sheet_stream.specs.declared.error.StreamError.TheVariants.{Unread, Unwritten}
use Rattle.sheet_stream.specs.Courses.{AwaitsCore, Course, HoldsAt, OfEach, RowBreaks, RowsCount, RowsStand, Errors}
use Rattle.sheet_stream.specs.Going.{IsNextRow, IsStripRow, core_top, gone_on}
use Rattle.sheet_stream.specs.Reading.{HoldsTo, ReadsRow}
use Rattle.sheet_stream.specs.Strips.{CanStream, IsSomeStrip}
use Rattle.sheet_stream.specs.Workspaces.{CanHoldStrip}
use Rattle.sheet_stream.specs.Waiting.{WritesAndReads}
use Rattle.sheet_stream.proofs.AtHand.{begins, core_inside, cut_is, made, rulers, sheet, small, strip_cuttable, strip_form, strip_wide}
use Rattle.sheet_stream.proofs.OnSheets.{cuttable, height_same, may_begin, none_same, rulers_same, width_same}
use Rattle.sheet_stream.proofs.ReadLemmas.{before, new_is, now, reading_stops}
use Rattle.sheet_stream.proofs.RowReads.{holds_on}
use Rattle.sheet_stream.specs.Growing.{new_rows}
use Rattle.sheet_stream.specs.Holding.{HoldRowsFrom}
use Rattle.sheet_stream.specs.RowReading.{HaveHeader, HoldsRead, tints_for}
use Rattle.sheet_stream.specs.StoredStrips.{IsStripOf}
use Rattle.sheet_geometry.specs.declared.spans.Span.{Span}
use Rattle.sheet_geometry.specs.Spans.{AreSpans, even_wide}
use Rattle.sheet_geometry.specs.Strips.{strip_parts, strip_tile}
use Rattle.sheet_stream.specs.declared.parts.StripPlan.{StripPlan}
use Rattle.sheet_stream.specs.Cores.{AreOpen, WritesCore}
use Rattle.sheet_stream.specs.OnSheet.{strip_cut}
use Rattle.sheet_stream.specs.Ready.{IsTrappable, TrapsRow}
use Rattle.sheet_stream.proofs.OnSheetLemmas.{strip_broken, strip_counted, strip_written}
use Rattle.sheet_engine.specs.declared.workspace.StripWorkspace.{StripWorkspace}
use Rattle.sheet_engine.specs.Workspaces.{IsStripWorkspace, columns_in}
use Rattle.sheet_engine.specs.Works.{AreNone}
use Rattle.sheet_engine.proofs.Adding.{workspaces_same}
use Rattle.sheet_engine.proofs.Wholes.{none_workspace, rows_add, strip_workspace}
use Rattle.sheet_engine.specs.Growth.{AddsArea, HasWorkspaces}
use Rattle.sheet_engine.specs.declared.counts.SheetCounts.{SheetCounts}
use Rattle.sheet_geometry.specs.Forms.{Form, form_of}
use Rattle.sheet_geometry.specs.WindowSheets.{IsCuttable}

-- The next strip, of these rows, is at hand once it was read, of a course.
module _ (outline : PageParts) (plan : StripPlan) (begun : List OpenPlate) (p : Progress) (row : Span) (can : CanStream outline plan) (headers : HaveHeader outline begun) (next : IsNextRow plan.down p row) (strip : PageParts) (at_hand : IsSomeStrip outline plan strip)
    (course : Course) (none : SheetCounts) (trays trays' : List TrayState) (new : PageParts) (holds : HoldsTo course.inputs outline begun (even_wide plan.down) p course.trays trays strip) (reads : ReadsRow outline begun p row strip new trays trays' (Ok tt)) where
  abbrev read : HoldsRead course.inputs outline begun row.from (even_wide plan.down) course.trays trays' new.planes
  read = now outline plan begun p row can headers next strip at_hand trays trays' new course.inputs course.trays holds reads

  abbrev as_before : (sheet : PageParts) → BeginsWith outline (tints_for outline read.samples) sheet → BeginsWith outline (tints_for outline holds.samples) sheet
  as_before = before outline plan begun p row can headers next strip at_hand trays trays' new course.inputs course.trays holds reads

  abbrev pub holds_then : (end : StreamWorkspace) → end.strip ≡ new → OfEach outline holds.samples (RowsCount none end.counts p.at) → HoldsAt course outline plan begun none row trays' end
  holds_then end same counted =
      let top : p.at ≡ core_top row = sym next.span.begins in
      record {
        at_hand = subst (IsStripOf outline row) (sym same) (new_is outline plan begun p row can headers next strip at_hand trays trays' new course.inputs course.trays holds reads);
        holds = holds_on course.inputs outline begun (even_wide plan.down) row course.trays trays' end.strip next.wide
            (record { samples = read.samples; read = read.read; stored = subst (λ (s : PageParts). HoldRowsFrom outline row.from (even_wide plan.down) (tints_for outline read.samples) s.planes) (sym same) read.stored });
        counted = λ sheet begins. subst (λ (n : ℕ). RowsCount none end.counts n sheet) top (counted sheet (as_before sheet begins));
      }

  -- what is written of the rows above it before is so of each sheet that begins with what is read now
  pub written_then : (racks : List RackState) → OfEach outline holds.samples (RowsStand course outline plan p.at racks) → OfEach outline read.samples (RowsStand course outline plan (core_top row) racks)
  written_then racks written = λ sheet begins. subst (λ (n : ℕ). RowsStand course outline plan n racks sheet) (sym next.span.begins) (written sheet (as_before sheet begins))

-- The strip at hand is put.
module _ (outline : PageParts) (plan : StripPlan) (begun : List OpenPlate) (row : Span) (can : CanStream outline plan) (is : IsStripRow plan.down row) (old : StreamWorkspace) (trays : List TrayState) (course : Course) (none : SheetCounts) (stands : HoldsAt course outline plan begun none row trays old) where
  abbrev samples : ℕ → List ℕ
  samples = stands.holds.samples

  abbrev tints : ℕ → List ℕ
  tints = tints_for outline samples

  stored : HoldRowsFrom outline row.from row.wide tints old.strip.planes
  stored = elim stands.holds.stored [
    | inl empty ↦ absurd (let some = is.span.some in let core = is.span.core in omega (arith, empty, some, core))
    | inr filled ↦ subst (λ (n : ℕ). HoldRowsFrom outline row.from n tints old.strip.planes) (sym is.wide) filled.1
  ]

  all_inside : row.from + row.wide ≤ height outline
  all_inside = (let a = is.span.inside in let t = can.rulers.tall in omega (arith, a, t))

  few_samples : (c : ℕ) → c < plates outline → length (samples c) ≤ width outline * height outline
  few_samples c l =
      let e = stands.holds.count c l in
      let m : (row.from + row.wide) * width outline ≤ height outline * width outline = mul-le-mul all_inside (omega arith) in
      omega (arith, e, m)

  may : MayBegin outline tints
  may = may_begin outline samples few_samples

  wide_is : width old.strip ≡ width outline
  wide_is = strip_wide outline plan row old.strip can is stands.at_hand tints stored

  form_is : form_of old.strip ≡ form_of outline
  form_is = strip_form outline plan row old.strip can is stands.at_hand tints stored

  strip_made : (one : PageParts) → BeginsWith outline tints one → old.strip ≡ strip_parts one row
  strip_made = made outline plan row old.strip can is stands.at_hand tints stored

  core_low : core_top row + row.core ≤ height outline
  core_low = core_inside outline plan row old.strip can is stands.at_hand tints stored

  counts_fit : AreNone outline none → HasWorkspaces old.strip (width old.strip * row.core) old.counts
  counts_fit empty =
      let one = sheet outline plan row old.strip can is stands.at_hand tints stored may in
      let starts = begins outline plan row old.strip can is stands.at_hand tints stored may in
      let cut = cut_is outline plan row old.strip can is stands.at_hand tints stored may in
      let low : core_top row + row.core ≤ height one = (let e = height_same outline one tints starts in let i = core_low in omega (arith, e, i)) in
      let fits = strip_workspace one (width one) (core_top row) row.core (height one) none old.counts (none_workspace one none (none_same outline one tints starts none empty) cut.narrow cut.low) (stands.counted one starts) low in
      let on_strip : HasWorkspaces (strip_parts one row) (width one * row.core) old.counts = workspaces_same one (strip_tile one row).cut (width one * row.core) old.counts fits in
      let wide : width one ≡ width old.strip = width_same outline one tints starts ∙ sym wide_is in
      subst (λ (n : ℕ). HasWorkspaces old.strip (n * row.core) old.counts) wide
      (subst (λ (s : PageParts). HasWorkspaces s (width one * row.core) old.counts) (sym (strip_made one starts)) on_strip)

  pub trappable : AreNone outline none → (windows : StripWorkspace) → CanHoldStrip outline plan windows → IsTrappable plan row old.strip windows old.counts
  trappable empty windows workspace =
      let starts = begins outline plan row old.strip can is stands.at_hand tints stored may in
      record {
        sheet = sheet outline plan row old.strip can is stands.at_hand tints stored may;
        at = core_top row;
        valid = starts.valid;
        near = (cut_is outline plan row old.strip can is stands.at_hand tints stored may).near;
        rulers = rulers outline plan row old.strip can is stands.at_hand tints stored may;
        small = small outline plan row old.strip can is stands.at_hand tints stored may;
        span = is.span;
        same = strip_made (sheet outline plan row old.strip can is stands.at_hand tints stored may) starts;
        some_workers = can.some_workers;
        columns = subst (λ (n : ℕ). AreSpans plan.across 0 (columns_in windows) n) (sym wide_is) workspace.columns;
        windows = subst (λ (f : Form). IsStripWorkspace f row.wide windows) (sym form_is) (subst (λ (n : ℕ). IsStripWorkspace (form_of outline) n windows) (sym is.wide) workspace.windows);
        counts_fit = counts_fit empty;
      }

  pub plates_are : plates old.strip ≡ plates outline
  plates_are = stored.count

  pub line_long : (line : ℕ) → plates outline * width outline ≤ line → plates old.strip * width old.strip ≤ line
  line_long line long = subst (λ (most : ℕ). most ≤ line) (λ i. sym stored.count i * sym wide_is i) long

  pub deep_is : plan.header.maxval ≡ maxval old.strip
  deep_is = can.deep ∙ sym (stored.deep 0 (let s = can.valid.parts.some_plates in omega (arith, s)))

  pub hand_cuttable : IsCuttable old.strip
  hand_cuttable = strip_cuttable outline plan row old.strip can is stands.at_hand tints stored may

  -- it is trapped
  module _ (workspace windows : StripWorkspace) (counts : SheetCounts) (traps : TrapsRow plan row old.strip workspace windows old.counts counts) where
    pub can_hold_still : CanHoldStrip outline plan workspace → CanHoldStrip outline plan windows
    can_hold_still can_hold = record {
      columns = subst (λ (cs : List Span). AreSpans plan.across 0 cs (width outline)) (sym traps.columns) can_hold.columns;
      windows = subst (λ (n : ℕ). IsStripWorkspace (form_of outline) n windows) is.wide (subst (λ (f : Form). IsStripWorkspace f row.wide windows) form_is traps.windows);
    }

    pub counted_on : OfEach outline samples (RowsCount none counts (core_top row + row.core))
    counted_on one starts =
        let cut = cuttable outline one tints starts can.cut can.narrow can.low in
        let rule = rulers_same outline one tints starts plan.across plan.down can.rulers in
        let of_strip : AddsArea (strip_parts one row) 0 row.skip (width (strip_parts one row)) row.core old.counts counts =
        subst (λ (s : PageParts). AddsArea s 0 row.skip (width s) row.core old.counts counts) (strip_made one starts) traps.counted in
        let of_sheet = strip_counted one plan.across plan.down (core_top row) row starts.valid cut.near rule is.span old.counts counts of_strip in
        let at : core_top row ≡ 0 + core_top row = omega arith in
        rows_add one 0 0 (width one) (core_top row) row.core none old.counts counts (stands.counted one starts)
        (subst (λ (n : ℕ). AddsArea one 0 n (width one) row.core old.counts counts) at of_sheet)

  -- the rows above its core are written, and then it is
  module _ (racks : List RackState) (above : OfEach outline samples (RowsStand course outline plan (core_top row) racks)) where
    pub are_open : AreOpen plan.header (plates old.strip) racks
    are_open =
        let one = sheet outline plan row old.strip can is stands.at_hand tints stored may in
        let starts = begins outline plan row old.strip can is stands.at_hand tints stored may in
        record {
          names = course.outputs;
          tints = λ c. new_rows one c (core_top row);
          start = course.racks;
          written = subst (λ (n : ℕ). HaveWritten course.outputs plan.header n (λ c. new_rows one c (core_top row)) course.racks racks) (sym stored.count) (above one starts);
        }

  module _ (racks : List RackState) (above : OfEach outline samples (RowsStand course outline plan (core_top row) racks)) (racks' : List RackState) where
    pub written_on : WritesCore (plates old.strip) plan.header old.strip (strip_cut plan.across plan.down row) racks racks' (Ok tt) → OfEach outline samples (RowsStand course outline plan (core_top row + row.core) racks')
    written_on writes one starts =
        let cut = cuttable outline one tints starts can.cut can.narrow can.low in
        let rule = rulers_same outline one tints starts plan.across plan.down can.rulers in
        strip_written one plan.across plan.down (core_top row) row starts.valid cut.near rule is.span course.outputs plan.header (plates outline) course.racks racks racks' (above one starts)
        (subst (λ (s : PageParts). WritesCore (plates outline) plan.header s (strip_cut plan.across plan.down row) racks racks' (Ok tt)) (strip_made one starts)
        (subst (λ (n : ℕ). WritesCore n plan.header old.strip (strip_cut plan.across plan.down row) racks racks' (Ok tt)) stored.count writes))

    broken_at : (k : ℕ) → WritesCore (plates old.strip) plan.header old.strip (strip_cut plan.across plan.down row) racks racks' (Err (Write (Some k))) → OfEach outline samples (RowBreaks course outline plan k racks')
    broken_at k writes one starts =
        let cut = cuttable outline one tints starts can.cut can.narrow can.low in
        let rule = rulers_same outline one tints starts plan.across plan.down can.rulers in
        let broken = strip_broken one plan.across plan.down (core_top row) row starts.valid cut.near rule is.span course.outputs plan.header (plates outline) k course.racks racks racks' (above one starts)
        (subst (λ (s : PageParts). WritesCore (plates outline) plan.header s (strip_cut plan.across plan.down row) racks racks' (Err (Write (Some k)))) (strip_made one starts)
        (subst (λ (n : ℕ). WritesCore n plan.header old.strip (strip_cut plan.across plan.down row) racks racks' (Err (Write (Some k)))) stored.count writes)) in
        (broken.0, broken.1, broken.2, (let l = broken.3 in let i = core_low in omega (arith, l, i)), broken.4)

    -- .. or that fails, whatever more was read by then
    module _ (trays' : List TrayState) (more : ℕ → List ℕ) (read : HaveRead course.inputs begun (length begun) more course.trays trays') (before_more : (one : PageParts) → BeginsWith outline (tints_for outline more) one → BeginsWith outline tints one) where
      unwritten_at : (k : ℕ) → WritesCore (plates old.strip) plan.header old.strip (strip_cut plan.across plan.down row) racks racks' (Err (Write (Some k))) → Errors course outline plan begun trays' racks' (Unwritten (Write (Some k)))
      unwritten_at k writes = record {
        samples = more;
        read = read;
        written = λ one starts. broken_at k writes one (before_more one starts);
      }

      pub unwritten : (common_error : CommonError) → WritesCore (plates old.strip) plan.header old.strip (strip_cut plan.across plan.down row) racks racks' (Err common_error) → Errors course outline plan begun trays' racks' (Unwritten common_error)
      unwritten (Write (Some k)) writes = unwritten_at k writes
      unwritten (Write None) writes = absurd writes
      unwritten (Read file) writes = absurd writes
      unwritten (JobFails fault) writes = absurd writes
      unwritten (NoDetails plate) writes = absurd writes
      unwritten (Plate plate fault) writes = absurd writes
      unwritten (Page fault) writes = absurd writes
      unwritten Usage writes = absurd writes
      unwritten Memory writes = absurd writes

-- The core that waits cannot be written, or then the next strip cannot be read.
pub stopped_beside : (outline : PageParts) (plan : StripPlan) (begun : List OpenPlate) (last row next : Span) → CanStream outline plan → HaveHeader outline begun → IsStripRow plan.down row → IsNextRow plan.down (gone_on row) next → (old : StreamWorkspace) → IsSomeStrip outline plan old.strip → (new : PageParts) (trays trays' : List TrayState) (racks racks' : List RackState) (course : Course) (none : SheetCounts) → AwaitsCore course outline plan begun none last row trays racks old → (error : StreamError) → WritesAndReads outline plan begun (gone_on row) last next old.strip old.ahead new trays trays' racks racks' (Err error) → Errors course outline plan begun trays' racks' error
stopped_beside outline plan begun last row next can headers hand is old at_hand new trays trays' racks racks' course none awaits (Unread error) does = record {
  stops = reading_stops outline plan begun (gone_on row) next can headers is old.strip at_hand trays trays' new course.inputs course.trays awaits.at.holds error does.1;
  samples = awaits.at.holds.samples;
  between = trays;
  read = awaits.at.holds.read;
  rows = core_top row;
  few = (let a = hand.span.core in let i = hand.span.inside in let t = can.rulers.tall in omega (arith, a, i, t));
  written = awaits.written racks' does.0;
}
stopped_beside outline plan begun last row next can headers hand is old at_hand new trays trays' racks racks' course none awaits (Unwritten common_error) does =
    subst (λ (now : List TrayState). Errors course outline plan begun now racks' (Unwritten common_error)) (sym does.1) (awaits.unwritten racks' common_error does.0)
