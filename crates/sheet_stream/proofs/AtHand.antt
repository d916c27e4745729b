-- The strip at hand is that strip of each sheet that begins with what was read.
use Rattle.std.proofs.Common.{◌≡◌, ℕ, ◌+◌, ◌<◌, ◌≤◌, List, map, sym, subst, arith}
use Rattle.sheet_geometry.specs.Areas.{traps}
use Rattle.sheet_geometry.specs.Begun.{BeginsWith, MayBegin}
use Rattle.sheet_geometry.specs.StripCores.{StripCoreLaw, inner_ruler}
use Rattle.sheet_geometry.proofs.BegunLemmas.{some_sheet}
use Rattle.sheet_geometry.proofs.CoreLemmas.{core_law}
use Rattle.page_model.specs.declared.parts.PageParts.{PageParts}
use Rattle.page_model.specs.Page.{height, plates, width}
use Rattle.page_model.specs.Planes.{no_plane}
use Rattle.sheet_stream.specs.Going.{IsStripRow, core_top}
use Rattle.sheet_stream.specs.Strips.{CanBeCut, CanStream}
use Rattle.sheet_stream.proofs.OnSheets.{cuttable, height_same, rulers_same, small_same}
use Rattle.sheet_stream.specs.Holding.{HoldRowsFrom}
use Rattle.sheet_stream.specs.StoredStrips.{IsStripOf}
use Rattle.sheet_stream.proofs.HoldLemmas.{strip_made}
use Rattle.sheet_stream.proofs.TurnLemmas.{have_form}
use Rattle.sheet_geometry.specs.declared.spans.Span.{Span}
use Rattle.sheet_geometry.specs.Plans.{AreRulersFor, AreSmall, AreRulers}
use Rattle.sheet_geometry.specs.Spans.{IsSpan}
use Rattle.sheet_geometry.specs.Strips.{StripLaw, strip_parts, strip_tile}
use Rattle.sheet_geometry.proofs.Parts.{height-is, width-is}
use Rattle.sheet_geometry.proofs.StripLemmas.{strip_law}
use Rattle.sheet_stream.specs.declared.parts.StripPlan.{StripPlan}
use Rattle.sheet_stream.specs.OnSheet.{strip_cut}
use Rattle.sheet_geometry.specs.Forms.{form_of, zone_form}
use Rattle.sheet_geometry.specs.WindowSheets.{IsCuttable}
use Rattle.page_model.specs.Columns.{halo}
use Rattle.page_model.specs.Reach.{page_reach}
use Rattle.sheet_geometry.proofs.Tiles.{traps_local}
use Rattle.sheet_geometry.proofs.Windows.{reach-same}

-- parts with as many plates, the same inks, and zones of one form have one form
form_same : (one two : PageParts) → plates one ≡ plates two → one.inks ≡ two.inks → map zone_form one.zones ≡ map zone_form two.zones → form_of one ≡ form_of two
unfolding form_of
form_same one two deep inks zones = λ i. record { deep = deep i; inks = inks i; zones = zones i }

module _ (outline : PageParts) (plan : StripPlan) (row : Span) (strip : PageParts) (can : CanStream outline plan) (is : IsStripRow plan.down row) (strip_is : IsStripOf outline row strip) (tints : ℕ → List ℕ) (stored : HoldRowsFrom outline row.from row.wide tints strip.planes) where
  pub inside : row.from + row.wide ≤ height outline
  inside = (let a = is.span.inside in let t = can.rulers.tall in omega (arith, a, t))

  pub core_inside : core_top row + row.core ≤ height outline
  core_inside = (let b = is.span.core in let d = inside in omega (arith, b, d))

  some_plate : 0 < plates outline
  some_plate = (let s = can.valid.parts.some_plates in omega (arith, s))

  pub strip_wide : width strip ≡ width outline
  strip_wide = stored.wide 0 some_plate

  pub strip_form : form_of strip ≡ form_of outline
  strip_form = form_same strip outline stored.count strip_is.inks (have_form outline row strip strip_is)

  pub made : (sheet : PageParts) → BeginsWith outline tints sheet → strip ≡ strip_parts sheet row
  made sheet begins = strip_made outline sheet row tints strip strip_is stored begins (let e = height_same outline sheet tints begins in let i = inside in omega (arith, e, i))

  -- some sheet begins so
  module _ (may : MayBegin outline tints) where
    pub some : (sheet : PageParts) × BeginsWith outline tints sheet
    some = some_sheet outline tints can.valid can.blank may

    abbrev pub sheet : PageParts
    sheet = some.0

    pub begins : BeginsWith outline tints sheet
    begins = some.1

    pub cut_is : IsCuttable sheet
    cut_is = cuttable outline sheet tints begins can.cut can.narrow can.low

    pub rulers : AreRulersFor traps sheet plan.across plan.down
    rulers = rulers_same outline sheet tints begins plan.across plan.down can.rulers

    pub small : AreSmall sheet plan.across plan.down
    small = small_same outline sheet tints begins plan.across plan.down can.small

    some_wide : 1 ≤ width sheet
    some_wide = (begins.valid.parts.planes_in_range 0 no_plane (let p = begins.valid.parts.some_plates in omega (arith, p))).some_width

    law : StripLaw (halo (page_reach sheet)) sheet (core_top row) row
    law = strip_law (halo (page_reach sheet)) sheet plan.across plan.down (core_top row) row begins.valid cut_is.near rulers is.span some_wide

    core : StripCoreLaw (halo (page_reach sheet)) traps sheet plan.across plan.down (core_top row) row
    core = core_law (halo (page_reach sheet)) sheet plan.across plan.down (core_top row) row begins.valid cut_is.near rulers is.span traps traps_local (omega arith)

    parts_cuttable : IsCuttable (strip_parts sheet row)
    parts_cuttable = record {
      ranges = law.ranges;
      near = law.near;
      narrow = (let w = width-is sheet (strip_tile sheet row).cut law.tile.cut in let n = cut_is.narrow in omega (arith, w, n));
      low = (let h = height-is sheet (strip_tile sheet row).cut law.tile.cut in let n = can.low in let i = inside in omega (arith, h, n, i));
    }

    pub strip_cuttable : IsCuttable strip
    strip_cuttable = subst IsCuttable (sym (made sheet begins)) parts_cuttable

    pub can_be_cut : CanBeCut strip (strip_cut plan.across plan.down row)
    can_be_cut = record {
      rulers = subst (λ (s : PageParts). AreRulersFor traps s plan.across (strip_cut plan.across plan.down row).down) (sym (made sheet begins)) (subst (λ (n : ℕ). AreRulers (halo n) (strip_parts sheet row) plan.across (inner_ruler plan.down row)) (sym (reach-same sheet (strip_tile sheet row).cut)) core.rulers);
      small = subst (λ (s : PageParts). AreSmall s plan.across (strip_cut plan.across plan.down row).down) (sym (made sheet begins)) (core.small small);
      row = (let e : row.skip ≡ 0 + row.skip = omega arith in subst (λ (n : ℕ). IsSpan (strip_cut plan.across plan.down row).down n (strip_cut plan.across plan.down row).row) e core.span);
    }
