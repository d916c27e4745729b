-- A second reading, from its beginning to its end.
use Rattle.std.proofs.Common.{append_assoc, ◌≡◌, ℕ, ◌+◌, ◌*◌, ◌-◌, ◌<◌, ◌≤◌, IsTrue, List, [], ◌++◌, length, Result, Some, None, Ok, Err, inl, inr, sym, ap, ◌∙◌, subst, arith, take, length-take}
use Rattle.std.specs.Prelude.{replicate}
use Rattle.std.proofs.lemmas.Bool.{cases_lt}
use Rattle.std.proofs.lemmas.List.{get_or-replicate, get_or-take}
use Rattle.lists.specs.Words.{list_below}
use Rattle.lists.proofs.ListBelow.{list_below-add}
use Rattle.lists.proofs.Same.{list_below-same}
use Rattle.sheet_geometry.specs.Areas.{traps}
use Rattle.sheet_geometry.specs.Begun.{BeginsWith}
use Rattle.sheet_geometry.specs.StripCores.{new_from}
use Rattle.sheet_geometry.proofs.BegunLemmas.{some_sheet}
use Rattle.outside.specs.declared.tray.DeviceError.{DeviceError}
use Rattle.outside.specs.Rack.{RackState}
use Rattle.outside.specs.Tray.{TrayState}
use Rattle.outside.specs.Writing.{WritesFile}
use Rattle.page_model.specs.declared.parts.PageParts.{PageParts}
use Rattle.page_model.specs.Page.{height, plates, sample_at, width}
use Rattle.page_model.specs.Planes.{no_plane}
use Rattle.page_model.specs.Tints.{new, new_tints}
use Rattle.pgm_plates.specs.declared.bounds.Bounds.TheVariants.{Sheet}
use Rattle.pgm_plates.specs.declared.header.Header.{Header}
use Rattle.pgm_plates.specs.declared.rows.OpenPlate.{OpenPlate}
use Rattle.pgm_plates.specs.Reading.{ReadsPlateWithin}
use Rattle.pgm_plates.specs.Rows.{HasRead, HasWritten, plate_with, spelled_so_far}
use Rattle.plate_rows.specs.Images.{BeginsImages, BreaksRows, CreatesAt, EndsImages, HaveWritten}
use Rattle.plate_rows.specs.Laws.{header_of}
use Rattle.plate_rows.specs.Racks.{EachRack, rack_at}
use Rattle.plate_rows.specs.Rereading.{BeginsPlates, EndsPlates, HasChanged, HaveRead, Interrupts, StopsBegun, StopsReading}
use Rattle.plate_rows.specs.Trays.{EachTray, IsCalm, TakesFiles, header_at, name_at, no_header, no_open, open_at, tray_at}
use Rattle.plate_rows.specs.declared.error.RereadError.{RereadError}
use Rattle.plate_rows.specs.declared.error.RereadError.TheVariants.{Changed, Unread as PlateUnread}
use Rattle.plate_rows.proofs.ErrorLemmas.{ends_error, reading_ends, reading_stops, went_rows, went_whole}
use Rattle.plate_rows.proofs.WriteLemmas.{writing_ends, writing_leaves}
use Rattle.common_errors.specs.declared.common.CommonError.{CommonError}
use Rattle.common_errors.specs.declared.common.CommonError.TheVariants.{Job as JobFails, Memory, NoDetails, Page, Plate, Read, Usage, Write}
use Rattle.sheet_stream.specs.declared.error.StreamError.{StreamError}
use Rattle.sheet_stream.specs.declared.error.StreamError.TheVariants.{Unread, Unwritten}
use Rattle.sheet_stream.specs.Courses.{Course, HasStreamed, Starts, Errors, StopsUnread, StopsUnwritten}
use Rattle.sheet_stream.specs.Strips.{CanStream}
use Rattle.sheet_stream.specs.Second.{CanEnd, ComesTo, EndsBoth, IsDone, IsUnread, IsUnwritten, MayStand, PartsStand, PlateBreaks, StreamsSheet, WasRead, sheet_header}
use Rattle.sheet_stream.proofs.OnSheets.{height_same, may_begin, none_same}
use Rattle.sheet_stream.specs.Growing.{new_rows}
use Rattle.sheet_stream.specs.RowReading.{HaveHeader, tints_for}
use Rattle.sheet_stream.specs.Writing.{StandsInPart}
use Rattle.sheet_stream.proofs.GrowLemmas.{all_new}
use Rattle.sheet_stream.proofs.WriteLemmas.{part_stands}
use Rattle.sheet_stream.specs.declared.parts.StripPlan.{StripPlan}
use Rattle.sheet_engine.specs.Works.{AreNone}
use Rattle.sheet_engine.proofs.Wholes.{all_counted}
use Rattle.sheet_engine.specs.Growth.{AddsArea}
use Rattle.sheet_engine.specs.declared.counts.SheetCounts.{SheetCounts}

-- new tints of a sheet, and those behind them
new_more : (sheet : PageParts) (c first a b : ℕ) → new_from traps sheet c first a ++ new_from traps sheet c (first + a) b ≡ new_from traps sheet c first (a + b)
new_more sheet c first a b =
    let f : ℕ → ℕ = λ i. new sheet (sample_at sheet (first + i)) c in
    ap (λ (t : List ℕ). list_below f a ++ t) (list_below-same (λ i. new sheet (sample_at sheet (first + a + i)) c) (λ i. f (a + i)) b (λ i l. ap (λ (n : ℕ). new sheet (sample_at sheet n) c) (let e : first + a + i ≡ first + (a + i) = omega arith in e)))
    ∙ sym (list_below-add f a b)

-- what comes behind the first rows
abbrev rest_of : PageParts → ℕ → ℕ → List ℕ
rest_of sheet c rows = new_from traps sheet c (0 + rows * width sheet) ((height sheet - rows) * width sheet)

rows_of_all : (sheet : PageParts) (c rows : ℕ) → rows ≤ height sheet → new_rows sheet c rows ++ rest_of sheet c rows ≡ new_tints sheet c
rows_of_all sheet c rows l =
    new_more sheet c 0 (rows * width sheet) ((height sheet - rows) * width sheet)
    ∙ ap (new_from traps sheet c 0) (let e : rows + (height sheet - rows) ≡ height sheet = omega (arith, l) in let m : (rows + (height sheet - rows)) * width sheet ≡ height sheet * width sheet = ap (λ (n : ℕ). n * width sheet) e in let t : rows * width sheet + (height sheet - rows) * width sheet ≡ height sheet * width sheet = omega (arith, m) in t)
    ∙ all_new sheet c

-- n rows more
rows_more : (sheet : PageParts) (c row n : ℕ) → new_rows sheet c row ++ new_from traps sheet c (row * width sheet) (n * width sheet) ≡ new_rows sheet c (row + n)
rows_more sheet c row n =
    let w = width sheet in
    let from : row * w ≡ 0 + row * w = omega arith in
    let all : row * w + n * w ≡ (row + n) * w = omega arith in
    ap (λ (k : ℕ). new_rows sheet c row ++ new_from traps sheet c k (n * w)) from
    ∙ new_more sheet c 0 (row * w) (n * w)
    ∙ ap (new_from traps sheet c 0) all

-- with the n rows after them
rows_of_all_by : (sheet : PageParts) (c row n : ℕ) → row + n ≤ height sheet → new_rows sheet c row ++ (new_from traps sheet c (row * width sheet) (n * width sheet) ++ rest_of sheet c (row + n)) ≡ new_tints sheet c
rows_of_all_by sheet c row n l =
    sym (append_assoc (new_rows sheet c row) (new_from traps sheet c (row * width sheet) (n * width sheet)) (rest_of sheet c (row + n)))
    ∙ ap (λ (t : List ℕ). t ++ rest_of sheet c (row + n)) (rows_more sheet c row n)
    ∙ rows_of_all sheet c (row + n) l

-- a stop of a reading, with the sheet's header
pub stops_same : (inputs : List (List ℕ)) (outline : PageParts) (begun : List OpenPlate) → HaveHeader outline begun → (start : List TrayState) (error : RereadError) (trays : List TrayState) → StopsReading inputs (header_of begun) (length begun) start trays error → StopsReading inputs (λ k. sheet_header outline) (plates outline) start trays error
stops_same inputs outline begun headers start (Changed k) trays stops = (
  subst (λ (n : ℕ). Interrupts inputs n k start trays) headers.count stops.0,
  subst (λ (h : Header). HasChanged (name_at inputs k) h (tray_at start k) (tray_at trays k)) (headers.each k stops.0.known) stops.1,
)
stops_same inputs outline begun headers start (PlateUnread k) trays stops = (subst (λ (n : ℕ). Interrupts inputs n k start trays) headers.count stops.0, stops.1)

module _ (course : Course) (outline : PageParts) (plan : StripPlan) (begun : List OpenPlate) (headers : HaveHeader outline begun) where
  in_begun : (k : ℕ) → k < plates outline → k < length begun
  in_begun k l = (let e = headers.count in omega (arith, l, e))

  -- what was written of a plate so far is a prefix of it
  stands : (sheet : PageParts) (k rows : ℕ) (racks : List RackState) → rows ≤ height sheet → HasWritten (name_at course.outputs k) plan.header (new_rows sheet k rows) (rack_at course.racks k) (rack_at racks k) → MayStand course plan.header sheet k racks
  stands sheet k rows racks l wrote = inr (subst (λ (ts : List ℕ). StandsInPart (name_at course.outputs k) (spelled_so_far plan.header ts) (rack_at course.racks k) (rack_at racks k)) (rows_of_all sheet k rows l)
      (part_stands (name_at course.outputs k) plan.header (new_rows sheet k rows) (rest_of sheet k rows) (rack_at course.racks k) (rack_at racks k) wrote))

  parts_stand : (sheet : PageParts) (rows : ℕ) (racks : List RackState) → rows ≤ height sheet → HaveWritten course.outputs plan.header (plates outline) (λ c. new_rows sheet c rows) course.racks racks → PartsStand course outline plan.header racks sheet
  parts_stand sheet rows racks l wrote = record {
    each = λ k less. stands sheet k rows racks l (wrote.each k less);
    others = wrote.others;
  }

  low_enough : (sheet : PageParts) (samples : ℕ → List ℕ) (rows : ℕ) → BeginsWith outline (tints_for outline samples) sheet → rows ≤ height outline → rows ≤ height sheet
  low_enough sheet samples rows is few = (let e = height_same outline sheet (tints_for outline samples) is in omega (arith, e, few))

  -- as many files as plates were opened again
  takes_all : (trays : List TrayState) → TakesFiles course.inputs (length begun) course.trays trays → TakesFiles course.inputs (plates outline) course.trays trays
  takes_all trays all = subst (λ (n : ℕ). TakesFiles course.inputs n course.trays trays) headers.count all

  -- the strips stop
  strips_unread : (trays : List TrayState) (racks : List RackState) (error : RereadError) → StopsUnread course outline plan begun trays racks error → IsUnread course outline plan.header trays racks error
  strips_unread trays racks error s = record {
    was = record { begun = begun; headers = headers; samples = s.samples; between = s.between; read = s.read };
    stops = stops_same course.inputs outline begun headers course.trays error trays s.stops.stops;
    takes = takes_all trays s.stops.all;
    written = λ sheet is. parts_stand sheet s.rows racks (low_enough sheet s.samples s.rows is s.few) (s.written sheet is);
  }

  takes_rows : (samples : ℕ → List ℕ) (trays : List TrayState) → HaveRead course.inputs begun (length begun) samples course.trays trays → TakesFiles course.inputs (plates outline) course.trays trays
  takes_rows samples trays read = record {
    each = λ k l. (went_rows (name_at course.inputs k) (tray_at course.trays k) (tray_at trays k) (open_at begun k) (samples k) (read.each k (in_begun k l))).takes;
    others = λ k more. read.others k (let e = headers.count in omega (arith, more, e));
  }

  calm_rows : (samples : ℕ → List ℕ) (trays : List TrayState) → HaveRead course.inputs begun (length begun) samples course.trays trays → (j : ℕ) → IsCalm course.trays trays j
  calm_rows samples trays read j = elim (cases_lt j (length begun)) [
    | inl less ↦ (went_rows (name_at course.inputs j) (tray_at course.trays j) (tray_at trays j) (open_at begun j) (samples j) (read.each j less)).calm
    | inr more ↦ ap (λ (t : TrayState). t.faults) (read.others j more)
  ]

  -- some rows could not be written
  broken : (sheet : PageParts) (k row n : ℕ) (racks : List RackState) → row + n ≤ height sheet → BreaksRows course.outputs plan.header (plates outline) k (λ c. new_rows sheet c row) (λ c. new_from traps sheet c (row * width sheet) (n * width sheet)) course.racks racks → PlateBreaks course outline plan.header k racks sheet
  broken sheet k row n racks l breaks = record {
    known = breaks.known;
    failed = breaks.failed;
    here = subst (λ (ts : List ℕ). WritesFile {T = Unit {0}} (name_at course.outputs k) (spelled_so_far plan.header ts) (rack_at course.racks k) (rack_at racks k) (Err breaks.failed)) (rows_of_all_by sheet k row n l) (breaks.here (rest_of sheet k (row + n)));
    each = λ j less other. elim (cases_lt j k) [
      | inl before ↦ inl (stands sheet j (row + n) racks l
          (subst (λ (ts : List ℕ). HasWritten (name_at course.outputs j) plan.header ts (rack_at course.racks j) (rack_at racks j)) (rows_more sheet j row n) (breaks.done j before)))
      | inr after ↦ inl (stands sheet j row racks (omega (arith, l)) (breaks.left j (omega (arith, after, other)) less))
    ];
    others = breaks.others;
  }

  strips_unwritten : (trays : List TrayState) (racks : List RackState) (k : ℕ) → StopsUnwritten course outline plan begun trays racks k → IsUnwritten course outline plan.header trays racks k
  strips_unwritten trays racks k s = record {
    was = record { begun = begun; headers = headers; samples = s.samples; between = trays; read = s.read };
    takes = takes_rows s.samples trays s.read;
    calm = calm_rows s.samples trays s.read;
    written = λ sheet is. (let w = s.written sheet is in let e = height_same outline sheet (tints_for outline s.samples) is in let l = w.3 in
        broken sheet k w.0 w.1 racks (omega (arith, e, l)) w.4);
  }

  pub strips_error : (counts : SheetCounts) (trays : List TrayState) (racks : List RackState) (error : StreamError) → Errors course outline plan begun trays racks error → ComesTo course outline plan.header counts trays racks (Err error)
  strips_error counts trays racks (Unread error) s = strips_unread trays racks error s
  strips_error counts trays racks (Unwritten (Write (Some k))) s = strips_unwritten trays racks k s
  strips_error counts trays racks (Unwritten (Write None)) s = absurd s
  strips_error counts trays racks (Unwritten (Read file)) s = absurd s
  strips_error counts trays racks (Unwritten (JobFails fault)) s = absurd s
  strips_error counts trays racks (Unwritten (NoDetails plate)) s = absurd s
  strips_error counts trays racks (Unwritten (Plate plate fault)) s = absurd s
  strips_error counts trays racks (Unwritten (Page fault)) s = absurd s
  strips_error counts trays racks (Unwritten Usage) s = absurd s
  strips_error counts trays racks (Unwritten Memory) s = absurd s

  -- all strips are through
  module _ (none counts : SheetCounts) (trays trays' : List TrayState) (racks racks' : List RackState) (empty : AreNone outline none) (streamed : HasStreamed course outline plan begun none counts trays racks) where
    abbrev was : WasRead course outline
    was = record { begun = begun; headers = headers; samples = streamed.samples; between = trays; read = streamed.read }

    whole_tints : (sheet : PageParts) (k : ℕ) → BeginsWith outline (tints_for outline streamed.samples) sheet → new_rows sheet k (height outline) ≡ new_tints sheet k
    whole_tints sheet k is = ap (new_rows sheet k) (sym (height_same outline sheet (tints_for outline streamed.samples) is)) ∙ all_new sheet k

    pub can_end : (k : ℕ) → k < length begun → CanEnd (open_at begun k) (tray_at trays k)
    can_end k l = (let has = streamed.read.each k l in record {
      is_begun = has.rows.begun;
      short = has.short;
      few = (let p = has.within.product in omega (arith, p));
    })

    few_samples : (c : ℕ) → c < plates outline → length (streamed.samples c) ≤ width outline * height outline
    few_samples c l = (let a = streamed.all c (in_begun c l) in let h = ap (λ (h : Header). h.width * h.height) (headers.each c (in_begun c l)) in omega (arith, a, h))

    pub still_open : CanStream outline plan → (k : ℕ) → k < length begun → IsTrue (rack_at racks k).is_open
    still_open can k l =
        (let some = some_sheet outline (tints_for outline streamed.samples) can.valid can.blank (may_begin outline streamed.samples few_samples) in
        ((streamed.written some.0 some.1).each k (let e = headers.count in omega (arith, e, l))).is_open)

    all_whole : EndsPlates begun trays trays' (Ok tt) → EachTray (plates outline) (λ k before after. ReadsPlateWithin Sheet (name_at course.inputs k) before after (Ok (plate_with (sheet_header outline) (streamed.samples k)))) course.trays trays'
    all_whole ends = (let e = reading_ends course.inputs begun streamed.samples course.trays trays trays' streamed.read streamed.all ends in record {
      each = λ k l. subst (λ (h : Header). ReadsPlateWithin Sheet (name_at course.inputs k) (tray_at course.trays k) (tray_at trays' k) (Ok (plate_with h (streamed.samples k)))) (headers.each k (in_begun k l)) (e.each k (in_begun k l));
      others = λ k more. e.others k (let n = headers.count in omega (arith, more, n));
    })

    some_wide : (sheet : PageParts) → BeginsWith outline (tints_for outline streamed.samples) sheet → (1 ≤ width sheet) × (1 ≤ height sheet)
    some_wide sheet is = (let plane = is.valid.parts.planes_in_range 0 no_plane (let p = is.valid.parts.some_plates in omega (arith, p)) in (plane.some_width, plane.some_height))

    done : EndsPlates begun trays trays' (Ok tt) → EndsImages (length begun) racks racks' (Ok tt) → IsDone course outline plan.header counts trays' racks'
    done plates_end images_end = record {
      was = was;
      whole = all_whole plates_end;
      written = λ sheet is.
          (let e = writing_ends course.outputs plan.header (plates outline) (λ c. new_rows sheet c (height outline)) course.racks racks racks' (streamed.written sheet is) (subst (λ (n : ℕ). EndsImages n racks racks' (Ok tt)) headers.count images_end) in
          record {
            each = λ k l. subst (λ (ts : List ℕ). WritesFile {T = Unit {0}} {E = DeviceError} (name_at course.outputs k) (spelled_so_far plan.header ts) (rack_at course.racks k) (rack_at racks' k) (Ok tt)) (whole_tints sheet k is) (e.each k l);
            others = e.others;
          });
      counted = λ sheet is.
          (let tints : ℕ → List ℕ = tints_for outline streamed.samples in
          let some = some_wide sheet is in
          all_counted sheet none counts some.0 some.1 (none_same outline sheet tints is none empty)
          (subst (λ (n : ℕ). AddsArea sheet 0 0 (width sheet) n none counts) (sym (height_same outline sheet tints is)) (streamed.counted sheet is)));
    }

    ended_all : (error : RereadError) → EndsPlates begun trays trays' (Err error) → StopsBegun course.inputs (header_of begun) (length begun) course.trays trays' error
    ended_all error ends = ends_error course.inputs begun streamed.samples course.trays trays trays' error streamed.read streamed.all ends

    end_unread : (error : RereadError) → EndsPlates begun trays trays' (Err error) → IsUnread course outline plan.header trays' racks error
    end_unread error ends = record {
      was = was;
      stops = stops_same course.inputs outline begun headers course.trays error trays' (ended_all error ends).stops;
      takes = takes_all trays' (ended_all error ends).all;
      written = λ sheet is. parts_stand sheet (height outline) racks (low_enough sheet streamed.samples (height outline) is (omega arith)) (streamed.written sheet is);
    }

    end_unwritten : (k : ℕ) → EndsPlates begun trays trays' (Ok tt) → EndsImages (length begun) racks racks' (Err (Write (Some k))) → IsUnwritten course outline plan.header trays' racks' k
    end_unwritten k plates_end images_end =
        let e = all_whole plates_end in
        record {
          was = was;
          takes = record {
            each = λ j l. (went_whole (name_at course.inputs j) (tray_at course.trays j) (tray_at trays' j) (plate_with (sheet_header outline) (streamed.samples j)) (e.each j l)).takes;
            others = e.others;
          };
          calm = λ j. elim (cases_lt j (plates outline)) [
            | inl less ↦ (went_whole (name_at course.inputs j) (tray_at course.trays j) (tray_at trays' j) (plate_with (sheet_header outline) (streamed.samples j)) (e.each j less)).calm
            | inr more ↦ ap (λ (t : TrayState). t.faults) (e.others j more)
          ];
          written = λ sheet is.
              (let leaves = writing_leaves course.outputs plan.header (plates outline) k (λ c. new_rows sheet c (height outline)) course.racks racks racks' (streamed.written sheet is) (subst (λ (n : ℕ). EndsImages n racks racks' (Err (Write (Some k)))) headers.count images_end) in
              record {
                known = leaves.known;
                failed = leaves.failed;
                here = subst (λ (ts : List ℕ). WritesFile {T = Unit {0}} (name_at course.outputs k) (spelled_so_far plan.header ts) (rack_at course.racks k) (rack_at racks' k) (Err leaves.failed)) (whole_tints sheet k is) leaves.here;
                each = λ j less other. elim (cases_lt j k) [
                  | inl before ↦ inr (subst (λ (ts : List ℕ). WritesFile {T = Unit {0}} {E = DeviceError} (name_at course.outputs j) (spelled_so_far plan.header ts) (rack_at course.racks j) (rack_at racks' j) (Ok tt)) (whole_tints sheet j is) (leaves.done j before))
                  | inr after ↦ inl (stands sheet j (height outline) racks' (low_enough sheet streamed.samples (height outline) is (omega arith)) (leaves.left j (omega (arith, after, other)) less))
                ];
                others = leaves.others;
              });
        }

    pub both_end : (result : Result (Unit {0}) StreamError) → EndsBoth begun trays trays' racks racks' result → ComesTo course outline plan.header counts trays' racks' result
    both_end (Ok x) ends = done ends.0 ends.1
    both_end (Err (Unread error)) ends = subst (λ (rs : List RackState). IsUnread course outline plan.header trays' rs error) (sym ends.1) (end_unread error ends.0)
    both_end (Err (Unwritten (Write (Some k)))) ends = end_unwritten k ends.0 ends.1
    both_end (Err (Unwritten (Write None))) ends = absurd ends.1
    both_end (Err (Unwritten (Read file))) ends = absurd ends.1
    both_end (Err (Unwritten (JobFails fault))) ends = absurd ends.1
    both_end (Err (Unwritten (NoDetails plate))) ends = absurd ends.1
    both_end (Err (Unwritten (Plate plate fault))) ends = absurd ends.1
    both_end (Err (Unwritten (Page fault))) ends = absurd ends.1
    both_end (Err (Unwritten Usage)) ends = absurd ends.1
    both_end (Err (Unwritten Memory)) ends = absurd ends.1

-- plates that are begun, and files that are not yet
module _ (course : Course) (outline : PageParts) (plan : StripPlan) (begun : List OpenPlate) (headers : HaveHeader outline begun) (trays : List TrayState) (many : length course.outputs ≡ plates outline) (read : HaveRead course.inputs begun (length begun) (λ k. []) course.trays trays) where
  pub files_begun : (racks : List RackState) → EachRack (length course.outputs) (CreatesAt course.outputs plan.header) course.racks racks → Starts course outline plan begun trays racks
  files_begun racks created = record {
    read = read;
    written = record {
      each = λ k l. created.each k (omega (arith, l, many));
      others = λ k more. created.others k (omega (arith, more, many));
    };
  }

  no_rows_yet : (sheet : PageParts) (c : ℕ) → [] ≡ new_rows sheet c 0
  no_rows_yet sheet c = (let e : 0 ≡ 0 * width sheet = omega arith in ap (new_from traps sheet c 0) e)

  not_created : (racks : List RackState) (k : ℕ) → BeginsImages course.outputs plan.header course.racks racks (Err (Write (Some k))) → IsUnwritten course outline plan.header trays racks k
  not_created racks k stops = record {
    was = record { begun = begun; headers = headers; samples = λ k. []; between = trays; read = read };
    takes = takes_rows course outline plan begun headers (λ k. []) trays read;
    calm = calm_rows course outline plan begun headers (λ k. []) trays read;
    written = λ sheet is. record {
      known = (let l = stops.known in omega (arith, l, many));
      failed = stops.here.0;
      here = stops.here.1 (new_tints sheet k);
      each = λ j less other. elim (cases_lt j k) [
        | inl before ↦ inl (stands course outline plan begun headers sheet j 0 racks (omega arith) (subst (λ (ts : List ℕ). HasWritten (name_at course.outputs j) plan.header ts (rack_at course.racks j) (rack_at racks j)) (no_rows_yet sheet j) (stops.each j before)))
        | inr after ↦ inl (inl (stops.others j (omega (arith, after, other))))
      ];
      others = λ j more. stops.others j (let l = stops.known in omega (arith, l, many, more));
    };
  }

  pub files_error : (counts : SheetCounts) (racks : List RackState) (common_error : CommonError) → BeginsImages course.outputs plan.header course.racks racks (Err common_error) → ComesTo course outline plan.header counts trays racks (Err (Unwritten common_error))
  files_error counts racks (Write (Some k)) s = not_created racks k s
  files_error counts racks (Write None) s = absurd s
  files_error counts racks (Read file) s = absurd s
  files_error counts racks (JobFails fault) s = absurd s
  files_error counts racks (NoDetails plate) s = absurd s
  files_error counts racks (Plate plate fault) s = absurd s
  files_error counts racks (Page fault) s = absurd s
  files_error counts racks Usage s = absurd s
  files_error counts racks Memory s = absurd s

-- The plates are begun once more, with one header.
module _ (inputs : List (List ℕ)) (outline : PageParts) (header : Header) (all : List Header) (begun : List OpenPlate) (trays trays' : List TrayState) (header_is : header ≡ sheet_header outline) (each_is : (k : ℕ) → k < length inputs → header_at all k ≡ header) (many : length inputs ≡ plates outline) (n : ℕ) (n_is : n ≡ length inputs) where
  abbrev first_begun : List OpenPlate
  first_begun = take n begun

  open_same : (k : ℕ) → k < length inputs → open_at first_begun k ≡ open_at begun k
  open_same k l = get_or-take n begun k no_open (omega (arith, l, n_is))

  pub have_headers : length inputs ≤ length begun → BeginsPlates inputs all begun trays trays' (Ok tt) → HaveHeader outline first_begun
  have_headers workspace begins = record {
    count = (let e = length-take n begun in omega (arith, e, many, workspace, n_is));
    each = λ k l. (let less : k < length inputs = (let e = length-take n begun in omega (arith, e, l, n_is)) in
        ap (λ (p : OpenPlate). p.header) (open_same k less) ∙ (begins.each k less).same ∙ each_is k less ∙ header_is);
  }

  pub are_begun : length inputs ≤ length begun → BeginsPlates inputs all begun trays trays' (Ok tt) → HaveRead inputs first_begun (length first_begun) (λ k. []) trays trays'
  are_begun workspace begins =
      let long : length first_begun ≡ length inputs = (let e = length-take n begun in omega (arith, e, workspace, n_is)) in
      record {
        each = λ k l. (let less : k < length inputs = omega (arith, l, long) in
            subst (λ (p : OpenPlate). HasRead Sheet (name_at inputs k) (tray_at trays k) (tray_at trays' k) p []) (sym (open_same k less)) (begins.each k less).read);
        others = λ k more. begins.others k (omega (arith, more, long));
      }

  pub not_begun_again : (error : RereadError) → BeginsPlates inputs all begun trays trays' (Err error) → StopsReading inputs (λ k. sheet_header outline) (plates outline) trays trays' error
  not_begun_again error begins = again error (reading_stops inputs all begun trays trays' error begins) where
    again : (error : RereadError) → StopsReading inputs (header_at all) (length inputs) trays trays' error → StopsReading inputs (λ k. sheet_header outline) (plates outline) trays trays' error
    again (Changed k) stops = (
      subst (λ (n : ℕ). Interrupts inputs n k trays trays') many stops.0,
      subst (λ (h : Header). HasChanged (name_at inputs k) h (tray_at trays k) (tray_at trays' k)) (each_is k stops.0.known ∙ header_is) stops.1,
    )
    again (PlateUnread k) stops = (subst (λ (n : ℕ). Interrupts inputs n k trays trays') many stops.0, stops.1)

-- one header for each of sixteen plates
pub sixteen : (h : Header) (k : ℕ) → k < 16 → header_at (replicate 16 h) k ≡ h
sixteen h k l = get_or-replicate 16 k h no_header l

-- Once the plates are begun, what comes of it is what comes of all.
pub streams_from : (course : Course) (outline : PageParts) (header : Header) (counts : SheetCounts) (trays : List TrayState) (racks : List RackState) (result : Result (Unit {0}) StreamError) → ComesTo course outline header counts trays racks result → StreamsSheet course outline header counts trays racks result
streams_from course outline header counts trays racks (Ok x) comes = comes
streams_from course outline header counts trays racks (Err (Unread error)) comes = inr comes
streams_from course outline header counts trays racks (Err (Unwritten common_error)) comes = comes
