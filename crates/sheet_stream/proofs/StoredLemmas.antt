-- All rows of a sheet are read once more, and held.
use Rattle.std.proofs.Common.{◌≡◌, ℕ, ◌*◌, ◌-◌, ◌<◌, List, [], length, Result, Ok, Err, inl, refl, sym, ap, ◌∙◌, subst, arith, length-drop}
use Rattle.std.proofs.lemmas.List.{length-map}
use Rattle.sheet_geometry.specs.Begun.{BeginsWith}
use Rattle.outside.specs.Tray.{TrayState}
use Rattle.page_model.specs.declared.parts.PageParts.{PageParts}
use Rattle.page_model.specs.Page.{height, maxval, plates, width}
use Rattle.page_model.specs.Planes.{tints_of}
use Rattle.pgm_plates.specs.declared.bounds.Bounds.TheVariants.{Sheet}
use Rattle.pgm_plates.specs.declared.header.Header.{Header}
use Rattle.pgm_plates.specs.declared.rows.OpenPlate.{OpenPlate}
use Rattle.pgm_plates.specs.Reading.{ReadsPlateWithin}
use Rattle.pgm_plates.specs.Rows.{plate_with, samples_of}
use Rattle.plate_rows.specs.declared.rereading.NextRows.{NextRows}
use Rattle.plate_rows.specs.declared.error.RereadError.{RereadError}
use Rattle.plate_rows.specs.Rereading.{EndsPlates, HaveRead, IsReadTo, StopsReading}
use Rattle.plate_rows.specs.Trays.{name_at, open_at, tray_at}
use Rattle.plate_rows.proofs.ErrorLemmas.{ends_error, reading_ends}
use Rattle.sheet_stream.specs.Going.{not_begun}
use Rattle.sheet_stream.specs.Reading.{HoldsTo, rows_then}
use Rattle.sheet_stream.specs.Second.{CanEnd, sheet_header}
use Rattle.sheet_stream.specs.Whole.{HoldsSheet, all_rows}
use Rattle.sheet_stream.proofs.OnSheets.{height_same}
use Rattle.sheet_stream.proofs.RowReads.{stopped}
use Rattle.sheet_stream.proofs.SecondLemmas.{stops_same}
use Rattle.sheet_stream.specs.Holding.{HaveWorkspaceFor}
use Rattle.sheet_stream.specs.RowReading.{HaveHeader, HoldsRead, ReadsStrip, tints_for}
use Rattle.sheet_stream.specs.StoredStrips.{IsStripOf}
use Rattle.sheet_stream.proofs.HoldLemmas.{strip_made}
use Rattle.sheet_stream.proofs.RowReadLemmas.{first_read}
use Rattle.sheet_geometry.specs.Windows.{window}
use Rattle.sheet_geometry.proofs.Whole.{whole_law}

no_rows : (w : ℕ) → 0 ≡ 0 * w
no_rows w = omega arith

module _ (inputs : List (List ℕ)) (outline : PageParts) (begun : List OpenPlate) (headers : HaveHeader outline begun) (start before after : List TrayState) (old new : PageParts) (workspace : IsStripOf outline (all_rows outline) old) (read : HaveRead inputs begun (length begun) (λ k. []) start before) where
  here : (k : ℕ) → k < length begun → k < plates outline
  here k l = (let e = headers.count in omega (arith, e, l))

  many : (k : ℕ) → k < length begun → samples_of (open_at begun k).header ≡ width outline * height outline
  many k l = ap (λ (h : Header). h.width * h.height) (headers.each k l)

  pub all_to_read : (k : ℕ) → k < length begun → IsReadTo (open_at begun k) 0 (length (tints_of old.planes k)) (tray_at before k)
  all_to_read k l = record {
    name = name_at inputs k;
    start = tray_at start k;
    samples = [];
    read = read.each k l;
    count = refl;
    workspace = (let long = workspace.planes.workspace k (here k l) in let m = many k l in omega (arith, long, m));
  }

  holds_none : HoldsTo inputs outline begun (height outline) not_begun start before old
  holds_none = record { samples = λ k. []; read = read; count = λ k l. no_rows (width outline); stored = inl refl }

  pub reading_stopped : (error : RereadError) → ReadsStrip begun (record { done = 0; kept = 0 }) 0 old new before after (Err error) → StopsReading inputs (λ k. sheet_header outline) (plates outline) start after error
  reading_stopped error reads =
      let zero = no_rows (width outline) in
      let next : ◌≡◌ {A = NextRows} (record { done = 0; kept = 0 }) (rows_then outline not_begun (all_rows outline)) = λ i. record { done = zero i; kept = zero i } in
      let reads_then = subst (λ (n : NextRows). ReadsStrip begun n (0 * width outline) old new before after (Err error)) next (subst (λ (n : ℕ). ReadsStrip begun (record { done = 0; kept = 0 }) n old new before after (Err error)) zero reads) in
      stops_same inputs outline begun headers start error after
      (stopped outline begun (height outline) not_begun (all_rows outline) inputs start before old headers holds_none refl (omega arith) (omega arith) (omega arith) workspace.planes new after error reads_then).stops

  module _ (reads : ReadsStrip begun (record { done = 0; kept = 0 }) 0 old new before after (Ok tt)) where
    first : HoldsRead inputs outline begun 0 (height outline) start after new.planes
    first = first_read inputs outline begun (height outline) start before after old new headers read workspace.planes (omega arith) reads

    strip_workspace_is : HaveWorkspaceFor outline (height outline) new.planes
    strip_workspace_is = record {
      count = first.stored.count;
      wide = first.stored.wide;
      tall = first.stored.tall;
      deep = first.stored.deep;
      workspace = λ c l. (let e = ap length (first.stored.stored c l) in let d = length-drop (0 * width outline) (tints_for outline first.samples c) in let r = first.stored.read c l in let z = no_rows (width outline) in omega (arith, e, d, r, z));
    }

    strip_is : IsStripOf outline (all_rows outline) new
    strip_is = record {
      resolution = reads.resolution ∙ workspace.resolution;
      inks = reads.inks ∙ workspace.inks;
      zones = reads.zones ∙ workspace.zones;
      planes = strip_workspace_is;
    }

    all_read : (k : ℕ) → k < length begun → length (first.samples k) ≡ samples_of (open_at begun k).header
    all_read k l =
        (let e = length-map (first.samples k) (λ (v : ℕ). maxval outline - v) in
        let r = first.stored.read k (here k l) in
        let m = many k l in
        omega (arith, e, r, m))

    is_sheet : (sheet : PageParts) → BeginsWith outline (tints_for outline first.samples) sheet → new ≡ sheet
    is_sheet sheet begins =
        let tall = height_same outline sheet (tints_for outline first.samples) begins in
        strip_made outline sheet (all_rows outline) (tints_for outline first.samples) new strip_is first.stored begins (omega (arith, tall))
        ∙ ap (λ (n : ℕ). window sheet (record { left = 0; top = 0; width = width sheet; height = n })) (sym tall)
        ∙ (whole_law sheet begins.valid).same

    pub rows_can_end : (k : ℕ) → k < length begun → CanEnd (open_at begun k) (tray_at after k)
    rows_can_end k l = (let has = first.read.each k l in record {
      is_begun = has.rows.begun;
      short = has.short;
      few = (let p = has.within.product in omega (arith, p));
    })

    pub stored_end : (after' : List TrayState) (result : Result (Unit {0}) RereadError) → EndsPlates begun after after' result → HoldsSheet inputs outline new start after' result
    stored_end after' (Ok x) ends =
        let e = reading_ends inputs begun first.samples start after after' first.read all_read ends in
        record {
          begun = begun;
          headers = headers;
          samples = first.samples;
          between = after;
          read = first.read;
          whole = record {
            each = λ k l. (let in_begun : k < length begun = (let n = headers.count in omega (arith, l, n)) in
                subst (λ (h : Header). ReadsPlateWithin Sheet (name_at inputs k) (tray_at start k) (tray_at after' k) (Ok (plate_with h (first.samples k)))) (headers.each k in_begun) (e.each k in_begun));
            others = λ k more. e.others k (let n = headers.count in omega (arith, more, n));
          };
          same = is_sheet;
        }
    stored_end after' (Err error) ends = stops_same inputs outline begun headers start error after' (ends_error inputs begun first.samples start after after' error first.read all_read ends).stops
