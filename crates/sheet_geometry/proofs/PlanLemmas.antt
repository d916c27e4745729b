-- Spans by rulers of a sheet make tiles of it, and a tiling.
use Rattle.std.proofs.Common.{◌≡◌, ℕ, ◌+◌, ◌-◌, ◌*◌, ◌/◌, ◌%◌, ◌≤◌, Bool, true, false, List, [], ◌∷◌, max, refl, sym, ap, ◌∙◌, subst, arith, length, div-add-mod'}
use Rattle.std.specs.Prelude.{if◌then◌else◌, map}
use Rattle.std.proofs.Math.Nat.{mul-le-mul}
use Rattle.std.proofs.lemmas.Nat.{mul-mod_second}
use Rattle.page_model.specs.declared.parts.PageParts.{PageParts}
use Rattle.page_model.specs.Page.{height, plates, width}
use Rattle.sheet_geometry.specs.declared.spans.Ruler.{Ruler}
use Rattle.sheet_geometry.specs.declared.spans.Span.{Span}
use Rattle.sheet_geometry.specs.Plans.{AreRulers, AreSmall, IsStep, PlanLaw, strip_of, tile_of}
use Rattle.sheet_geometry.specs.Sheets.{IsSmall}
use Rattle.sheet_geometry.specs.Spans.{AreSpans, IsSpan}
use Rattle.sheet_geometry.specs.Tiles.{IsCore, IsStrip, IsTile, IsTiling}
use Rattle.sheet_geometry.specs.Windows.{IsCut, IsExact}

multiple : (resolution step q : ℕ) → IsStep resolution step → (72 * 10000 * (q * step)) % resolution ≡ 0
multiple resolution step q is =
    let e : 720000 * (q * step) ≡ q * (720000 * step) = grind arith in
    ap (λ (n : ℕ). n % resolution) e ∙ sym (mul-mod_second q (720000 * step) resolution) ∙ ap (λ (n : ℕ). (q * n) % resolution) is ∙ (let z : q * 0 ≡ 0 = omega arith in ap (λ (n : ℕ). n % resolution) z ∙ omega arith)

-- whole steps are a whole number of ten-thousandths of a point
pub exact_from : (resolution step n : ℕ) → IsStep resolution step → n % step ≡ 0 → IsExact resolution n
exact_from resolution step n is h =
    let whole : n / step * step ≡ n = (let t = div-add-mod' n step in omega (arith, t, h)) in
    let none : (720000 * n) % resolution ≡ 0 = subst (λ (k : ℕ). (720000 * k) % resolution ≡ 0) whole (multiple resolution step (n / step) is) in
    let t : (720000 * n) / resolution * resolution + (720000 * n) % resolution ≡ 720000 * n = div-add-mod' (720000 * n) resolution in
    omega (arith, t, none)

if_false : (b : Bool) (x y : ℕ) → b ≡ false → (if b then x else y) ≡ y
if_false b x y e = rw e refl

pub if_true : (b : Bool) (x y : ℕ) → b ≡ true → (if b then x else y) ≡ x
if_true b x y e = rw e refl

module _ (halo : ℕ) (sheet : PageParts) (across down : Ruler) (some_plates : 1 ≤ plates sheet) (some_zones : 1 ≤ length sheet.zones) (are : AreRulers halo sheet across down) where
  cut_is : (x y : ℕ) (column row : Span) → IsSpan across x column → IsSpan down y row → IsCut sheet (tile_of column row).cut
  cut_is x y column row cx cy = record {
    some_plates = some_plates;
    some_zones = some_zones;
    some_width = (let a = cx.some in let b = cx.core in omega (arith, a, b));
    some_height = (let a = cy.some in let b = cy.core in omega (arith, a, b));
    across = (let a = cx.inside in let b = are.wide in omega (arith, a, b));
    down = (let a = cy.inside in let b = are.tall in omega (arith, a, b));
    exact_right = λ many. exact_from sheet.resolution across.step column.from (are.step_across many)
        (ap (λ (n : ℕ). n % across.step) (sym (if_false across.from_end (across.side - (column.from + column.wide)) column.from are.from_left)) ∙ cx.exact);
    exact_up = λ many. exact_from sheet.resolution down.step (height sheet - (row.from + row.wide)) (are.step_down many)
        (ap (λ (n : ℕ). n % down.step) (ap (λ (n : ℕ). n - (row.from + row.wide)) (sym are.tall) ∙ sym (if_true down.from_end (down.side - (row.from + row.wide)) row.from are.from_bottom)) ∙ cy.exact);
  }

  core_is : (x y : ℕ) (column row : Span) → IsSpan across x column → IsSpan down y row → IsCore halo sheet (tile_of column row).cut (tile_of column row).core
  core_is x y column row cx cy = record {
    across = cx.core;
    down = cy.core;
    left = λ more. (let a = cx.before more in let h = are.halo_across in omega (arith, a, h));
    top = λ more. (let a = cy.before more in let h = are.halo_down in omega (arith, a, h));
    right = λ more. (let a = cx.after (let w = are.wide in omega (arith, more, w)) in subst (λ (h : ℕ). column.skip + column.core + max 1 h ≤ column.wide) are.halo_across a);
    bottom = λ more. (let a = cy.after (let t = are.tall in omega (arith, more, t)) in subst (λ (h : ℕ). row.skip + row.core + max 1 h ≤ row.wide) are.halo_down a);
  }

  tile_is : (x y : ℕ) (column row : Span) → IsSpan across x column → IsSpan down y row → IsTile halo sheet (tile_of column row) x y row.core
  tile_is x y column row cx cy = record { cut = cut_is x y column row cx cy; core = core_is x y column row cx cy; left = cx.begins; top = cy.begins; tall = refl }

  small_is : (x y : ℕ) (column row : Span) → IsSpan across x column → IsSpan down y row → AreSmall sheet across down → IsSmall sheet (tile_of column row).cut
  small_is x y column row cx cy small = record {
    narrow = (let a = cx.small in let b = small.narrow in omega (arith, a, b));
    low = (let a = cy.small in let b = small.low in omega (arith, a, b));
    few_samples = (let a : column.wide * row.wide ≤ across.most * down.most = mul-le-mul cx.small cy.small in
        let b : column.wide * row.wide * plates sheet ≤ across.most * down.most * plates sheet = mul-le-mul a (omega arith) in
        let few = small.few_samples in omega (arith, b, few));
  }

  pub strip_is : (columns : List Span) (x y : ℕ) (row : Span) → IsSpan down y row → AreSpans across x columns (width sheet) → IsStrip halo sheet y row.core x (map (λ column. tile_of column row) columns)
  strip_is [] x y row cy spans = spans
  strip_is (column ∷ columns) x y row cy spans = (tile_is x y column row spans.0 cy, strip_is columns (x + column.core) y row cy spans.1)

  tiling_is : (columns rows : List Span) (y : ℕ) → AreSpans across 0 columns (width sheet) → AreSpans down y rows (height sheet) → IsTiling halo sheet y (map (strip_of columns) rows)
  tiling_is columns [] y cs rs = rs
  tiling_is columns (row ∷ rows) y cs rs = (strip_is columns 0 y row rs.0 cs, tiling_is columns rows (y + row.core) cs rs.1)

  pub plan_law : PlanLaw halo sheet across down
  plan_law = record { tiles = tile_is; small = small_is; tiling = λ columns rows cs rs. tiling_is columns rows 0 cs rs }
