-- The next strip of a sheet is read, behind those rows of it that the strip at hand has too.
use Rattle.std.proofs.Common.{◌≡◌, ◌⊎◌, ℕ, ◌+◌, ◌*◌, ◌-◌, ◌<◌, ◌≤◌, List, length, Ok, Err, sym, ap, ◌∙◌, subst, arith, length-drop}
use Rattle.std.proofs.Math.Nat.{mul-le-mul}
use Rattle.std.proofs.lemmas.List.{length-map}
use Rattle.sheet_geometry.specs.Begun.{BeginsWith}
use Rattle.outside.specs.Tray.{TrayState}
use Rattle.page_model.specs.declared.parts.PageParts.{PageParts}
use Rattle.page_model.specs.declared.parts.Plane.{Plane}
use Rattle.page_model.specs.Page.{height, maxval, plates, width}
use Rattle.page_model.specs.Planes.{tints_of}
use Rattle.pgm_plates.specs.declared.rows.OpenPlate.{OpenPlate}
use Rattle.plate_rows.specs.Laws.{header_of}
use Rattle.plate_rows.specs.Rereading.{IsReadTo, StopsBegun}
use Rattle.plate_rows.specs.Trays.{open_at, tray_at}
use Rattle.plate_rows.specs.declared.error.RereadError.{RereadError}
use Rattle.sheet_stream.specs.declared.rows.Progress.{Progress}
use Rattle.sheet_stream.specs.Going.{IsNextRow, IsStripRow}
use Rattle.sheet_stream.specs.Reading.{HoldsTo, ReadsRow}
use Rattle.sheet_stream.specs.Strips.{CanStream, IsSomeStrip}
use Rattle.sheet_stream.proofs.AtHand.{begins, rulers, sheet, strip_cuttable}
use Rattle.sheet_stream.proofs.GoingLemmas.{hand_of}
use Rattle.sheet_stream.proofs.OnSheets.{earlier, may_begin}
use Rattle.sheet_stream.proofs.RowReads.{GoOnTo, both_fit, read_on, read_to, stopped}
use Rattle.sheet_stream.specs.Holding.{AreAlike, HaveWorkspaceFor, HoldRowsFrom}
use Rattle.sheet_stream.specs.RowReading.{HaveHeader, HoldsRead, tints_for}
use Rattle.sheet_stream.specs.StoredStrips.{IsStripOf}
use Rattle.sheet_stream.proofs.TurnLemmas.{turned_is}
use Rattle.sheet_geometry.specs.declared.spans.Span.{Span}
use Rattle.sheet_geometry.specs.Spans.{even_wide}
use Rattle.sheet_stream.specs.declared.parts.StripPlan.{StripPlan}
use Rattle.sheet_geometry.specs.WindowSheets.{IsCuttable}

-- the room of a strip, whatever rows it shows
pub workspace_of_strip : (outline : PageParts) (plan : StripPlan) (strip : PageParts) → IsSomeStrip outline plan strip → HaveWorkspaceFor outline (even_wide plan.down) strip.planes
workspace_of_strip outline plan strip is = subst (λ (n : ℕ). HaveWorkspaceFor outline n strip.planes) is.tall is.is_strip.planes

-- The next strip, of these rows, is read behind those of the strip at hand.
module _ (outline : PageParts) (plan : StripPlan) (begun : List OpenPlate) (p : Progress) (row : Span) (can : CanStream outline plan) (headers : HaveHeader outline begun) (next : IsNextRow plan.down p row) (strip : PageParts) (at_hand : IsSomeStrip outline plan strip) where
  next_inside : row.from + row.wide ≤ height outline
  next_inside = (let a = next.span.inside in let t = can.rulers.tall in omega (arith, a, t))

  hand : IsStripRow plan.down row
  hand = hand_of plan.down p row next

  strip_workspace_is : HaveWorkspaceFor outline (even_wide plan.down) strip.planes
  strip_workspace_is = workspace_of_strip outline plan strip at_hand

  -- what was read, wherever that began, of the strip at hand as if it were turned
  abbrev pub turned_holds : (turned : PageParts) (inputs : List (List ℕ)) (start now : List TrayState) → turned.planes ≡ strip.planes → HoldsTo inputs outline begun (even_wide plan.down) p start now strip → HoldsTo inputs outline begun (even_wide plan.down) p start now turned
  turned_holds turned inputs start now same holds = record {
    samples = holds.samples;
    read = holds.read;
    count = holds.count;
    stored = subst (λ (planes : List Plane). (p.read ≡ 0) ⊎ ((p.read ≡ p.from + even_wide plan.down) × HoldRowsFrom outline p.from (even_wide plan.down) (tints_for outline holds.samples) planes)) (sym same) holds.stored;
  }

  turned_workspace : (turned : PageParts) → turned.planes ≡ strip.planes → HaveWorkspaceFor outline (even_wide plan.down) turned.planes
  turned_workspace turned same = subst (HaveWorkspaceFor outline (even_wide plan.down)) (sym same) strip_workspace_is

  -- what the next rows are read by
  module _ (trays : List TrayState) (inputs : List (List ℕ)) (start : List TrayState) (holds : HoldsTo inputs outline begun (even_wide plan.down) p start trays strip) (wide : ℕ) (wide_is : wide ≡ width outline) where
    long : (k : ℕ) → k < length begun → length (tints_of strip.planes k) ≡ even_wide plan.down * width outline
    long k l = strip_workspace_is.workspace k (let e = headers.count in omega (arith, e, l))

    pub common_within : (k : ℕ) → k < length begun → (row.from - p.from) * wide + (p.read - row.from) * wide ≤ length (tints_of strip.planes k)
    common_within k l = subst (λ (n : ℕ). (row.from - p.from) * wide + (p.read - row.from) * wide ≤ n) (sym (long k l)) (subst (λ (n : ℕ). (row.from - p.from) * n + (p.read - row.from) * n ≤ even_wide plan.down * width outline) (sym wide_is)
        (both_fit outline begun (even_wide plan.down) p row inputs start trays strip headers holds next.wide next.below next.above next_inside strip_workspace_is))

    pub read_there : (done : ℕ) → done ≡ p.read * wide → (k : ℕ) → k < length begun → IsReadTo (open_at begun k) done (length (tints_of strip.planes k) - (p.read - row.from) * wide) (tray_at trays k)
    read_there done done_is k l = subst (λ (n : ℕ). IsReadTo (open_at begun k) n (length (tints_of strip.planes k) - (p.read - row.from) * wide) (tray_at trays k)) (sym done_is)
        (subst (λ (n : ℕ). IsReadTo (open_at begun k) (p.read * n) (length (tints_of strip.planes k) - (p.read - row.from) * n) (tray_at trays k)) (sym wide_is)
        (read_to outline begun (even_wide plan.down) p row inputs start trays strip headers holds next.wide next.below next.above next_inside strip_workspace_is k l))

  -- two strips have planes of the same forms
  pub alike : (ahead : PageParts) → IsSomeStrip outline plan ahead → AreAlike strip.planes ahead.planes
  alike ahead is =
      let one = strip_workspace_is in
      let two = workspace_of_strip outline plan ahead is in
      record {
        count = two.count ∙ sym one.count;
        each = λ c l. (let here : c < plates outline = (let e = one.count in omega (arith, e, l)) in record {
          width = two.wide c here ∙ sym (one.wide c here);
          height = two.tall c here ∙ sym (one.tall c here);
          maxval = two.deep c here ∙ sym (one.deep c here);
          full = two.workspace c here ∙ sym (one.workspace c here);
        });
      }

  module _ (trays trays' : List TrayState) (new : PageParts) (inputs : List (List ℕ)) (start : List TrayState) (holds : HoldsTo inputs outline begun (even_wide plan.down) p start trays strip) where
    -- the reading stops
    pub reading_stops : (error : RereadError) → ReadsRow outline begun p row strip new trays trays' (Err error) → StopsBegun inputs (header_of begun) (length begun) start trays' error
    reading_stops error reads =
        stopped outline begun (even_wide plan.down) p row inputs start trays reads.turned headers (turned_holds reads.turned inputs start trays reads.turns.planes holds) next.wide next.below next.above next_inside (turned_workspace reads.turned reads.turns.planes) new trays' error reads.reads

    module _ (reads : ReadsRow outline begun p row strip new trays trays' (Ok tt)) where
      pub went : (now : HoldsRead inputs outline begun row.from (even_wide plan.down) start trays' new.planes) × GoOnTo (plates outline) holds.samples now.samples
      went = read_on outline begun (even_wide plan.down) p row inputs start trays reads.turned headers (turned_holds reads.turned inputs start trays reads.turns.planes holds) next.wide next.below next.above next_inside (turned_workspace reads.turned reads.turns.planes) new trays' reads.reads

      abbrev pub now : HoldsRead inputs outline begun row.from (even_wide plan.down) start trays' new.planes
      now = went.0

      now_stored : HoldRowsFrom outline row.from row.wide (tints_for outline now.samples) new.planes
      now_stored = subst (λ (n : ℕ). HoldRowsFrom outline row.from n (tints_for outline now.samples) new.planes) (sym next.wide) now.stored

      now_workspace : HaveWorkspaceFor outline row.wide new.planes
      now_workspace = record {
        count = now_stored.count;
        wide = now_stored.wide;
        tall = now_stored.tall;
        deep = now_stored.deep;
        workspace = λ c l. (let e = ap length (now_stored.stored c l) in let d = length-drop (row.from * width outline) (tints_for outline now.samples c) in let r = now_stored.read c l in omega (arith, e, d, r));
      }

      pub new_is : IsStripOf outline row new
      new_is =
          let turned_strip = turned_is outline at_hand.last row strip reads.turned at_hand.is_strip (at_hand.tall ∙ sym next.wide) reads.turns in
          record {
            resolution = reads.reads.resolution ∙ turned_strip.resolution;
            inks = reads.reads.inks ∙ turned_strip.inks;
            zones = reads.reads.zones ∙ turned_strip.zones;
            planes = now_workspace;
          }

      few : (c : ℕ) → c < plates outline → length (now.samples c) ≤ width outline * height outline
      few c l =
          let e = length-map (now.samples c) (λ (v : ℕ). maxval outline - v) in
          let r = now_stored.read c l in
          let i = next_inside in
          let m : (row.from + row.wide) * width outline ≤ height outline * width outline = mul-le-mul i (omega arith) in
          omega (arith, e, r, m)

      pub new_cuttable : IsCuttable new
      new_cuttable = strip_cuttable outline plan row new can hand new_is (tints_for outline now.samples) now_stored (may_begin outline now.samples few)

      pub new_some : IsSomeStrip outline plan new
      new_some = record { last = row; tall = next.wide; is_strip = new_is }

      -- a sheet that begins with all that was read begins with what was read before
      pub before : (sheet : PageParts) → BeginsWith outline (tints_for outline now.samples) sheet → BeginsWith outline (tints_for outline holds.samples) sheet
      before sheet begins = earlier outline sheet holds.samples now.samples went.1 begins
