-- A strip of no ink is a strip of a sheet.
use Rattle.std.proofs.Common.{◌≡◌, ℕ, ◌+◌, ◌*◌, ◌<◌, ◌≤◌, List, length, drop, sym, ap, ◌∙◌, subst, arith}
use Rattle.std.specs.Prelude.{replicate}
use Rattle.std.proofs.Math.Nat.{mul-le-mul}
use Rattle.std.proofs.lemmas.List.{get_or-map, length-map, length-replicate}
use Rattle.std.proofs.lemmas.List.Elements.{All-replicate}
use Rattle.sheet_geometry.specs.Begun.{MayBegin}
use Rattle.page_model.specs.declared.parts.PageParts.{PageParts}
use Rattle.page_model.specs.declared.parts.Plane.{Plane}
use Rattle.page_model.specs.Page.{height, maxval, plates, width}
use Rattle.page_model.specs.Planes.{no_plane, tints_of}
use Rattle.sheet_stream.specs.Going.{IsNextRow, IsStripRow, not_begun}
use Rattle.sheet_stream.specs.Strips.{CanBeCut, CanStream, IsSomeStrip}
use Rattle.sheet_stream.specs.Workspaces.{CanHoldStrip, IsBlankStrip}
use Rattle.sheet_stream.proofs.AtHand.{can_be_cut, strip_cuttable, strip_form}
use Rattle.sheet_stream.proofs.GoingLemmas.{hand_of}
use Rattle.sheet_stream.specs.Holding.{HoldRowsFrom}
use Rattle.sheet_stream.specs.StoredStrips.{blank_plane}
use Rattle.sheet_stream.proofs.TurnLemmas.{have_form}
use Rattle.sheet_geometry.specs.declared.spans.Span.{Span}
use Rattle.sheet_geometry.specs.Spans.{AreSpans}
use Rattle.sheet_stream.specs.declared.parts.StripPlan.{StripPlan}
use Rattle.sheet_stream.specs.OnSheet.{strip_cut}
use Rattle.sheet_engine.specs.declared.workspace.StripWorkspace.{StripWorkspace}
use Rattle.sheet_engine.specs.Workspaces.{IsStripWorkspace, columns_in}
use Rattle.sheet_engine.specs.Works.{AreNone}
use Rattle.sheet_engine.specs.declared.counts.SheetCounts.{SheetCounts}
use Rattle.sheet_geometry.specs.Forms.{Form, form_of, zone_form}
use Rattle.sheet_geometry.specs.WindowSheets.{IsCuttable}

no_rows : (w : ℕ) → 0 ≡ 0 * w
no_rows w = omega arith

module _ (outline : PageParts) (plan : StripPlan) (row : Span) (strip : PageParts) (can : CanStream outline plan) (next : IsNextRow plan.down not_begun row) (blank : IsBlankStrip outline row strip) where
  top : row.from ≡ 0
  top = (let a = next.above in omega (arith, a))

  inside : row.from + row.wide ≤ height outline
  inside = (let a = next.span.inside in let t = can.rulers.tall in omega (arith, a, t))

  abbrev tints : ℕ → List ℕ
  tints c = replicate (row.wide * width outline) 0

  plane_is : (c : ℕ) → c < plates outline → tints_of strip.planes c ≡ tints c
  plane_is c l =
      ap (λ (ps : List Plane). tints_of ps c) blank.blank
      ∙ ap (λ (p : Plane). p.tints) (get_or-map (blank_plane row.wide) outline.planes c no_plane no_plane l)
      ∙ ap (λ (n : ℕ). replicate n 0) (ap (λ (n : ℕ). n * row.wide) (can.valid.agree c l).wide ∙ (let e : width outline * row.wide ≡ row.wide * width outline = omega arith in e))

  stored : HoldRowsFrom outline row.from row.wide tints strip.planes
  stored = record {
    count = blank.strip_is.planes.count;
    read = λ c l. length-replicate {A = ℕ} (row.wide * width outline) 0 ∙ ap (λ (n : ℕ). n * width outline) (let t = top in let e : row.wide ≡ row.from + row.wide = omega (arith, t) in e);
    wide = blank.strip_is.planes.wide;
    tall = blank.strip_is.planes.tall;
    deep = blank.strip_is.planes.deep;
    stored = λ c l. plane_is c l ∙ (let e : 0 ≡ row.from * width outline = no_rows (width outline) ∙ ap (λ (n : ℕ). n * width outline) (sym top) in ap (λ (n : ℕ). drop n (tints c)) e);
  }

  may : MayBegin outline tints
  may = record {
    few = λ c l. (let e = length-replicate {A = ℕ} (row.wide * width outline) 0 in
        let i : row.wide ≤ height outline = (let i = inside in omega (arith, i)) in
        let m : row.wide * width outline ≤ height outline * width outline = mul-le-mul i (omega arith) in
        omega (arith, e, m));
    below = λ c l. All-replicate (λ (t : ℕ). t ≤ maxval outline) (row.wide * width outline) 0 (omega arith);
  }

  hand : IsStripRow plan.down row
  hand = hand_of plan.down not_begun row next

  pub blank_cuttable : IsCuttable strip
  blank_cuttable = strip_cuttable outline plan row strip can hand blank.strip_is tints stored may

  pub blank_cut : CanBeCut strip (strip_cut plan.across plan.down row)
  blank_cut = can_be_cut outline plan row strip can hand blank.strip_is tints stored may

  form_is : form_of strip ≡ form_of outline
  form_is = strip_form outline plan row strip can hand blank.strip_is tints stored

  pub some_strip : IsSomeStrip outline plan strip
  some_strip = record { last = row; tall = next.wide; is_strip = blank.strip_is }

  -- a room that was made for its windows
  pub can_hold : (windows : StripWorkspace) → AreSpans plan.across 0 (columns_in windows) (width outline) → IsStripWorkspace (form_of strip) row.wide windows → CanHoldStrip outline plan windows
  can_hold windows columns is = record {
    columns = columns;
    windows = subst (λ (n : ℕ). IsStripWorkspace (form_of outline) n windows) next.wide (subst (λ (f : Form). IsStripWorkspace f row.wide windows) form_is is);
  }

  pub none_counted : (counts : SheetCounts) → AreNone strip counts → AreNone outline counts
  none_counted counts none = record {
    zone_samples = none.zone_samples ∙ ap (λ (n : ℕ). replicate n 0) zones;
    zone_changed = none.zone_changed ∙ ap (λ (n : ℕ). replicate n 0) zones;
    plate_changed = none.plate_changed ∙ ap (λ (n : ℕ). replicate n 0) stored.count;
    edges = none.edges;
  } where
    zones : length strip.zones ≡ length outline.zones
    zones = (let a = ap length (have_form outline row strip blank.strip_is) in let b = length-map strip.zones zone_form in let d = length-map outline.zones zone_form in omega (arith, a, b, d))
