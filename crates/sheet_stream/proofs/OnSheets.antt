-- What is so of a bare sheet is so of each sheet that is bare so.
use Rattle.std.proofs.Common.{◌≡◌, ℕ, ◌*◌, ◌-◌, ◌<◌, ◌≤◌, ◌^◌, List, ◌++◌, length, map, None, sym, ap, ◌∙◌, subst, arith, append_assoc}
use Rattle.std.specs.Prelude.{replicate}
use Rattle.std.proofs.lemmas.List.{length-map, map-append}
use Rattle.std.proofs.lemmas.List.Elements.{All-map}
use Rattle.sheet_geometry.specs.Areas.{traps}
use Rattle.sheet_geometry.specs.Outline.{outline_sheet}
use Rattle.sheet_geometry.specs.Begun.{BeginsWith, MayBegin}
use Rattle.sheet_geometry.proofs.OutlineLemmas.{cuttable_is, height_is, law_of, plates_is, width_is}
use Rattle.page_model.specs.declared.parts.PageParts.{PageParts}
use Rattle.page_model.specs.Columns.{halo}
use Rattle.page_model.specs.Page.{height, maxval, plates, width}
use Rattle.sheet_geometry.specs.CommonErrors.{cut_fault}
use Rattle.sheet_stream.proofs.RowReads.{GoOnTo}
use Rattle.sheet_stream.specs.RowReading.{tints_for}
use Rattle.sheet_geometry.specs.declared.spans.Ruler.{Ruler}
use Rattle.sheet_geometry.specs.Plans.{AreRulersFor, AreSmall}
use Rattle.sheet_engine.specs.Works.{AreNone}
use Rattle.sheet_engine.specs.declared.counts.SheetCounts.{SheetCounts}
use Rattle.sheet_geometry.specs.WindowSheets.{IsCuttable}

module _ (outline sheet : PageParts) (tints : ℕ → List ℕ) (begins : BeginsWith outline tints sheet) where
  pub plates_same : plates sheet ≡ plates outline
  plates_same = sym (plates_is sheet) ∙ ap plates begins.same

  pub width_same : width sheet ≡ width outline
  width_same = sym (width_is sheet) ∙ ap width begins.same

  pub height_same : height sheet ≡ height outline
  height_same = sym (height_is sheet) ∙ ap height begins.same

  pub zones_same : length sheet.zones ≡ length outline.zones
  zones_same = ap (λ (s : PageParts). length s.zones) begins.same

  pub rulers_same : (across down : Ruler) → AreRulersFor traps outline across down → AreRulersFor traps sheet across down
  rulers_same across down are =
      let own : AreRulersFor traps (outline_sheet sheet) across down = subst (λ (s : PageParts). AreRulersFor traps s across down) (sym begins.same) are in
      record {
        wide = own.wide ∙ width_is sheet;
        tall = own.tall ∙ height_is sheet;
        halo_across = own.halo_across ∙ ap halo (law_of sheet).reach;
        halo_down = own.halo_down ∙ ap halo (law_of sheet).reach;
        from_left = own.from_left;
        from_bottom = own.from_bottom;
        step_across = own.step_across;
        step_down = own.step_down;
      }

  pub small_same : (across down : Ruler) → AreSmall outline across down → AreSmall sheet across down
  small_same across down small = record {
    narrow = small.narrow;
    low = small.low;
    few_samples = subst (λ (n : ℕ). across.most * down.most * n ≤ 160000000) (sym plates_same) small.few_samples;
  }

  pub cuttable : cut_fault outline ≡ None → width outline < 2 ^ 30 → height outline < 2 ^ 30 → IsCuttable sheet
  cuttable cut narrow low = cuttable_is sheet begins.valid (sym (law_of sheet).cut_fault ∙ ap cut_fault begins.same ∙ cut)
      (let e = width_same in omega (arith, e, narrow)) (let e = height_same in omega (arith, e, low))

  pub none_same : (counts : SheetCounts) → AreNone outline counts → AreNone sheet counts
  none_same counts none = record {
    zone_samples = none.zone_samples ∙ ap (λ (n : ℕ). replicate n 0) (sym zones_same);
    zone_changed = none.zone_changed ∙ ap (λ (n : ℕ). replicate n 0) (sym zones_same);
    plate_changed = none.plate_changed ∙ ap (λ (n : ℕ). replicate n 0) (sym plates_same);
    edges = none.edges;
  }

-- a sheet that begins with more samples begins with the first of them
pub earlier : (outline sheet : PageParts) (before after : ℕ → List ℕ) → GoOnTo (plates outline) before after → BeginsWith outline (tints_for outline after) sheet → BeginsWith outline (tints_for outline before) sheet
earlier outline sheet before after on begins = record {
  valid = begins.valid;
  same = begins.same;
  each = λ c l.
      (let turn : ℕ → ℕ = λ v. maxval outline - v in
      let more = on c l in
      let rest = begins.each c l in (
        map turn more.0 ++ rest.0,
        rest.1 ∙ ap (λ (ts : List ℕ). ts ++ rest.0) (ap (map turn) more.1 ∙ map-append turn (before c) more.0)
            ∙ append_assoc (map turn (before c)) (map turn more.0) rest.0,
      ));
}

-- samples that may be a sheet's first
pub may_begin : (outline : PageParts) (samples : ℕ → List ℕ) → ((c : ℕ) → c < plates outline → length (samples c) ≤ width outline * height outline) → MayBegin outline (tints_for outline samples)
may_begin outline samples few = record {
  few = λ c l. (let e = length-map (samples c) (λ (v : ℕ). maxval outline - v) in let f = few c l in omega (arith, e, f));
  below = λ c l. All-map (λ (tint : ℕ). tint ≤ maxval outline) (λ (v : ℕ). maxval outline - v) (samples c) (λ j d within. omega arith);
}
