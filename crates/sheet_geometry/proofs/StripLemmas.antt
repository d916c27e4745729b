-- A strip is a tile of its sheet, and a sheet.
use Rattle.std.proofs.Common.{◌≡◌, ℕ, ◌+◌, ◌-◌, ◌*◌, ◌/◌, ◌%◌, ◌≤◌, max, pos, refl, sym, ap, ◌∙◌, subst, arith, inl, inr}
use Rattle.std.specs.Prelude.{ℤ, ◌-ℤ◌, nat_abs}
use Rattle.std.specs.List.{All}
use Rattle.std.proofs.Math.Nat.{div-mul-le_self}
use Rattle.std.proofs.lemmas.Bool.{cases_eq}
use Rattle.std.proofs.lemmas.Int.{ints}
use Rattle.std.proofs.lemmas.Nat.{le-div}
use Rattle.page_model.specs.declared.parts.PageParts.{PageParts}
use Rattle.page_model.specs.declared.parts.Vertex.{Vertex}
use Rattle.page_model.specs.declared.parts.Zone.{Zone}
use Rattle.page_model.specs.Limits.{most_coordinate}
use Rattle.page_model.specs.Page.{height, width}
use Rattle.sheet_geometry.specs.declared.cuts.Cut.{Cut}
use Rattle.sheet_geometry.specs.declared.spans.Ruler.{Ruler}
use Rattle.sheet_geometry.specs.declared.spans.Span.{Span}
use Rattle.sheet_geometry.specs.Plans.{AreRulers}
use Rattle.sheet_geometry.specs.Sheets.{IsNearSheet, IsNearVertex, IsSheet}
use Rattle.sheet_geometry.specs.Spans.{IsSpan}
use Rattle.sheet_geometry.specs.Strips.{StripLaw, strip_tile}
use Rattle.sheet_geometry.specs.Windows.{IsCut, moved_vertex, moved_zone, points_of, right_of, rows_below, up_of, window}
use Rattle.sheet_geometry.proofs.Pages.{all_mapped, points_grow, window_is_sheet}
use Rattle.sheet_geometry.proofs.Parts.{height-is, width-is}
use Rattle.sheet_geometry.proofs.PlanLemmas.{exact_from, if_true}

-- lengths beside one another, cut down to whole numbers
sum_grows : (r a b : ℕ) → (720000 * a) / r + (720000 * b) / r ≤ (720000 * (a + b)) / r
sum_grows r a b = elim (cases_eq r 0) [
  | inl e ↦ rw e (omega arith)
  | inr some ↦ le-div ((720000 * a) / r + (720000 * b) / r) (720000 * (a + b)) r (omega (arith, some)) (let s = div-mul-le_self (720000 * a) r in let t = div-mul-le_self (720000 * b) r in omega (arith, s, t))
]

still_near : (v : ℤ) (moved rest far most : ℕ) → nat_abs v + far ≤ most → moved + rest ≤ far → nat_abs (v -ℤ pos moved) + rest ≤ most
still_near v moved rest far most a b = omega (arith, ints)

vertex_near : (sheet : PageParts) (cut : Cut) (v : Vertex) → IsCut sheet cut → IsNearVertex sheet v → IsNearVertex (window sheet cut) (moved_vertex (right_of sheet cut) (up_of sheet cut) v)
vertex_near sheet cut v is near =
    let r : ℕ = sheet.resolution in
    let across : points_of r cut.left + points_of r cut.width ≤ points_of r (width sheet) = (let a = sum_grows r cut.left cut.width in let b = points_grow r (cut.left + cut.width) (width sheet) is.across in omega (arith, a, b)) in
    let inside : rows_below sheet cut + cut.height ≤ height sheet = (let d = is.down in omega (arith, d)) in
    let down : points_of r (rows_below sheet cut) + points_of r cut.height ≤ points_of r (height sheet) = (let a = sum_grows r (rows_below sheet cut) cut.height in let b = points_grow r (rows_below sheet cut + cut.height) (height sheet) inside in omega (arith, a, b)) in
    let wide = ap (points_of r) (width-is sheet cut is) in
    let tall = ap (points_of r) (height-is sheet cut is) in
    record {
      x = (let t = still_near v.x (right_of sheet cut) (points_of r cut.width) (points_of r (width sheet)) most_coordinate near.x across in omega (arith, t, wide));
      y = (let t = still_near v.y (up_of sheet cut) (points_of r cut.height) (points_of r (height sheet)) most_coordinate near.y down in omega (arith, t, tall));
    }

-- the vertices of a window are in range from each of its corners
pub window_near : (sheet : PageParts) (cut : Cut) → IsCut sheet cut → IsNearSheet sheet → IsNearSheet (window sheet cut)
window_near sheet cut is near = all_mapped (λ (z : Zone). All (IsNearVertex sheet) z.path) (λ (z : Zone). All (IsNearVertex (window sheet cut)) z.path) (moved_zone (right_of sheet cut) (up_of sheet cut)) sheet.zones
    (λ zone all. all_mapped (IsNearVertex sheet) (IsNearVertex (window sheet cut)) (moved_vertex (right_of sheet cut) (up_of sheet cut)) zone.path (λ v n. vertex_near sheet cut v is n) all) near

no_way : (r : ℕ) → (720000 * 0) / r * r ≡ 720000 * 0
no_way r = (let e : (720000 * 0) / r ≡ 0 = omega arith in ap (λ (n : ℕ). n * r) e ∙ omega arith)

pub strip_law : (halo : ℕ) (sheet : PageParts) (across down : Ruler) (at : ℕ) (row : Span) → IsSheet sheet → IsNearSheet sheet → AreRulers halo sheet across down → IsSpan down at row → 1 ≤ width sheet → StripLaw halo sheet at row
strip_law halo sheet across down at row ok near are is some =
    let cut : Cut = (strip_tile sheet row).cut in
    let cut_is : IsCut sheet cut = record {
      some_plates = ok.parts.some_plates;
      some_zones = ok.parts.some_zones;
      some_width = some;
      some_height = (let a = is.some in let b = is.core in omega (arith, a, b));
      across = omega arith;
      down = (let a = is.inside in let t = are.tall in omega (arith, a, t));
      exact_right = λ _. no_way sheet.resolution;
      exact_up = λ many. exact_from sheet.resolution down.step (height sheet - (row.from + row.wide)) (are.step_down many)
          (ap (λ (n : ℕ). n % down.step) (ap (λ (n : ℕ). n - (row.from + row.wide)) (sym are.tall) ∙ sym (if_true down.from_end (down.side - (row.from + row.wide)) row.from are.from_bottom)) ∙ is.exact);
    } in
    record {
      tile = record {
        cut = cut_is;
        core = record {
          across = omega arith;
          down = is.core;
          left = λ more. absurd (omega (arith, more));
          top = λ more. (let a = is.before more in let h = are.halo_down in omega (arith, a, h));
          right = λ more. absurd (omega (arith, more));
          bottom = λ more. (let a = is.after (let t = are.tall in omega (arith, more, t)) in subst (λ (h : ℕ). row.skip + row.core + max 1 h ≤ row.wide) are.halo_down a);
        };
        left = omega arith;
        top = is.begins;
        tall = refl;
      };
      ranges = window_is_sheet sheet cut ok near cut_is;
      near = window_near sheet cut cut_is near;
    }
