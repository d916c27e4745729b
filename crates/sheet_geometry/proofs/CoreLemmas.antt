-- The rows of a strip's core are rows of the sheet.
use Rattle.std.proofs.Common.{◌≡◌, ℕ, suc, ◌+◌, ◌-◌, ◌*◌, ◌%◌, ◌<◌, ◌≤◌, List, [], ◌∷◌, ◌++◌, map, sym, ap, ◌∙◌, subst, arith, append_assoc}
use Rattle.std.specs.Prelude.{if◌then◌else◌}
use Rattle.std.proofs.lemmas.List.{append-nil, append_cancel_left}
use Rattle.std.proofs.lemmas.Nat.{div-mul-add, mod-mul-add}
use Rattle.lists.specs.Words.{list_below}
use Rattle.lists.proofs.ListBelow.{list_below-add}
use Rattle.lists.proofs.Same.{list_below-same}
use Rattle.page_model.specs.declared.parts.PageParts.{PageParts}
use Rattle.page_model.specs.Columns.{halo as halo_of}
use Rattle.page_model.specs.Page.{height, sample_at, width}
use Rattle.page_model.specs.Planes.{no_plane}
use Rattle.sheet_geometry.specs.StripCores.{StripCoreLaw, inner_row, inner_ruler, new_from}
use Rattle.sheet_geometry.specs.PageRules.{IsLocal, PageRule}
use Rattle.sheet_geometry.specs.declared.spans.Ruler.{Ruler}
use Rattle.sheet_geometry.specs.declared.spans.Span.{Span}
use Rattle.sheet_geometry.specs.Plans.{AreRulers, AreSmall, tile_of}
use Rattle.sheet_geometry.specs.Sheets.{IsNearSheet, IsSheet}
use Rattle.sheet_geometry.specs.Spans.{AreSpans, IsRuler, IsSpan}
use Rattle.sheet_geometry.specs.Strips.{StripLaw, strip_parts, strip_tile}
use Rattle.sheet_geometry.specs.Tiles.{IsStrip, Tile, core_row, strip_row, strip_rows}
use Rattle.sheet_geometry.proofs.Parts.{height-is, plates-same, width-is, zones-same}
use Rattle.sheet_geometry.proofs.PlanLemmas.{if_true, strip_is}
use Rattle.sheet_geometry.proofs.StripLemmas.{strip_law}
use Rattle.sheet_geometry.proofs.Tiles.{rows_to}

-- a row of samples, by their numbers
row_at : (rule : PageRule) (page : PageParts) (c y : ℕ) → list_below (λ x. rule.tint page (record { x = 0 + x; y = y }) c) (width page) ≡ new_from rule page c (y * width page) (width page)
row_at rule page c y = list_below-same (λ x. rule.tint page (record { x = 0 + x; y = y }) c) (λ x. rule.tint page (sample_at page (y * width page + x)) c) (width page)
    (λ x l. λ i. rule.tint page (record { x = (from_none x ∙ sym (mod-mul-add y (width page) x l)) i; y = sym (div-mul-add y (width page) x l) i }) c) where
      from_none : (n : ℕ) → 0 + n ≡ n
      from_none n = omega arith

-- one row of tiles side by side
module _ (rule : PageRule) (local : IsLocal rule) (halo c : ℕ) (sheet : PageParts) (enough : halo_of (rule.reach sheet) ≤ halo) (tiles : List Tile) (top tall : ℕ) (is : IsStrip halo sheet top tall 0 tiles) where
  abbrev to : ℕ → List ℕ
  to n = list_below (λ k. rule.tint sheet (sample_at sheet k) c) n

  pub row_from : (k : ℕ) → k < tall → strip_row rule c sheet k tiles ≡ new_from rule sheet c ((top + k) * width sheet) (width sheet)
  row_from k l =
      let here = rows_to rule local halo c sheet enough tiles top tall k (omega (arith, l)) is in
      let next = rows_to rule local halo c sheet enough tiles top tall (suc k) (omega (arith, l)) is in
      let e : (top + k) * width sheet + width sheet ≡ (top + suc k) * width sheet = omega arith in
      append_cancel_left (to ((top + k) * width sheet)) (strip_row rule c sheet k tiles) (new_from rule sheet c ((top + k) * width sheet) (width sheet))
      (ap (λ (t : List ℕ). t ++ strip_row rule c sheet k tiles) here
      ∙ append_assoc (to (top * width sheet)) (strip_rows rule c sheet tiles k) (strip_row rule c sheet k tiles)
      ∙ sym next
      ∙ sym (ap to e)
      ∙ list_below-add (λ k. rule.tint sheet (sample_at sheet k) c) ((top + k) * width sheet) (width sheet))

module _ (halo : ℕ) (sheet : PageParts) (across down : Ruler) (at : ℕ) (row : Span) (ok : IsSheet sheet) (near : IsNearSheet sheet) (are : AreRulers halo sheet across down) (is : IsSpan down at row) where
  some : 1 ≤ width sheet
  some = (ok.parts.planes_in_range 0 no_plane (let plates = ok.parts.some_plates in omega (arith, plates))).some_width

  law : StripLaw halo sheet at row
  law = strip_law halo sheet across down at row ok near are is some

  abbrev strip : PageParts
  strip = strip_parts sheet row

  pub wide_is : width strip ≡ width sheet
  wide_is = width-is sheet (strip_tile sheet row).cut law.tile.cut

  tall_is : height strip ≡ row.wide
  tall_is = height-is sheet (strip_tile sheet row).cut law.tile.cut

  rulers : AreRulers halo strip across (inner_ruler down row)
  rulers = record {
    wide = are.wide ∙ sym wide_is;
    tall = sym tall_is;
    halo_across = are.halo_across;
    halo_down = are.halo_down;
    from_left = are.from_left;
    from_bottom = are.from_bottom;
    step_across = λ many. are.step_across (omega (arith, many, zones-same sheet (strip_tile sheet row).cut));
    step_down = λ many. are.step_down (omega (arith, many, zones-same sheet (strip_tile sheet row).cut));
  }

  small : AreSmall sheet across down → AreSmall strip across (inner_ruler down row)
  small fit = record {
    narrow = fit.narrow;
    low = fit.low;
    few_samples = subst (λ (n : ℕ). across.most * down.most * n ≤ 160000000) (sym (plates-same sheet (strip_tile sheet row).cut)) fit.few_samples;
  }

  tall : 1 ≤ row.wide
  tall = (let a = is.some in let b = is.core in omega (arith, a, b))

  rows : IsRuler down → IsRuler (inner_ruler down row)
  rows ruler = record {
    some_side = tall;
    few_samples = (let a = is.inside in let b = ruler.few_samples in omega (arith, a, b));
    small_windows = ruler.small_windows;
    some_step = ruler.some_step;
    workspace = ruler.workspace;
  }

  exact_zero : (if down.from_end then row.wide - (0 + row.wide) else 0) % down.step ≡ 0
  exact_zero = ap (λ (n : ℕ). n % down.step) (if_true down.from_end (row.wide - (0 + row.wide)) 0 are.from_bottom ∙ (let e : row.wide - (0 + row.wide) ≡ 0 = omega arith in e)) ∙ omega arith

  span : IsSpan (inner_ruler down row) row.skip (inner_row row)
  span = record {
    begins = omega arith;
    some = is.some;
    core = is.core;
    inside = omega arith;
    small = is.small;
    before = λ more. absurd (omega (arith, more));
    after = λ more. absurd (omega (arith, more));
    exact = exact_zero;
  }

  module _ (rule : PageRule) (local : IsLocal rule) (enough : halo_of (rule.reach sheet) ≤ halo) where
    -- a row of the core, by the strip and by the sheet
    pub row_alike : (c k : ℕ) → k < row.core → new_from rule strip c ((row.skip + k) * width strip) (width strip) ≡ new_from rule sheet c ((at + k) * width sheet) (width sheet)
    row_alike c k l =
        let one : IsStrip halo sheet at row.core 0 (strip_tile sheet row ∷ []) = (law.tile, let e : 0 + width sheet ≡ width sheet = omega arith in e) in
        sym (row_at rule strip c (row.skip + k))
        ∙ ap (list_below (λ x. rule.tint strip (record { x = 0 + x; y = row.skip + k }) c)) wide_is
        ∙ sym (append-nil (core_row rule c sheet k (strip_tile sheet row)))
        ∙ row_from rule local halo c sheet enough (strip_tile sheet row ∷ []) at row.core one k l

    enough_too : halo_of (rule.reach strip) ≤ halo
    enough_too = subst (λ (n : ℕ). halo_of n ≤ halo) (sym (local.reach sheet (strip_tile sheet row).cut)) enough

    tints : (columns : List Span) (c k : ℕ) → AreSpans across 0 columns (width sheet) → k < row.core → strip_row rule c strip k (map (λ column. tile_of column (inner_row row)) columns) ≡ new_from rule sheet c ((at + k) * width sheet) (width sheet)
    tints columns c k spans l =
        let strips : IsStrip halo strip row.skip row.core 0 (map (λ (column : Span). tile_of column (inner_row row)) columns) =
        strip_is halo strip across (inner_ruler down row) law.ranges.parts.some_plates law.ranges.parts.some_zones rulers columns 0 row.skip (inner_row row) span (subst (AreSpans across 0 columns) (sym wide_is) spans) in
        row_from rule local halo c strip enough_too (map (λ (column : Span). tile_of column (inner_row row)) columns) row.skip row.core strips k l ∙ row_alike c k l

    pub core_law : StripCoreLaw halo rule sheet across down at row
    core_law = record {
      rulers = rulers;
      small = small;
      rows = rows;
      span = span;
      tints = tints;
    }
