-- A window within the limits of a page is a page, and so is a sheet.
use Rattle.std.proofs.Common.{◌≡◌, ℕ, zero, suc, ◌+◌, ◌*◌, ◌/◌, ◌%◌, ◌<◌, ◌≤◌, List, [], ◌∷◌, length, slice_index, pos, refl, sym, ap, ◌∙◌, subst, arith, inl, inr}
use Rattle.std.specs.Prelude.{ℤ, ◌-ℤ◌, if◌then◌else◌, map, nat_abs, slice_index_or, sum_by}
use Rattle.std.specs.List.{All}
use Rattle.std.proofs.Math.Nat.{div-mul-le_self}
use Rattle.std.proofs.lemmas.Bool.{cases_eq, cases_lt}
use Rattle.std.proofs.lemmas.Int.{ints}
use Rattle.std.proofs.lemmas.List.{get_or_past, get_or-map, length-map}
use Rattle.std.proofs.lemmas.List.Sums.{sum_by-cons}
use Rattle.std.proofs.lemmas.Nat.{le-div}
use Rattle.page_model.specs.declared.parts.PageParts.{PageParts}
use Rattle.page_model.specs.declared.parts.Plane.{Plane}
use Rattle.page_model.specs.declared.parts.Vertex.{Vertex}
use Rattle.page_model.specs.declared.parts.Zone.{Zone}
use Rattle.lists.proofs.ListBelow.{all_below, length-list_below}
use Rattle.page_model.specs.Conditions.{Agrees, IsPage, IsParts, IsPlane, IsVertex, IsZone, begins}
use Rattle.page_model.specs.Limits.{most_coordinate, most_samples, most_side}
use Rattle.page_model.specs.Page.{height, plates, width}
use Rattle.page_model.specs.Planes.{no_plane, plane_at}
use Rattle.page_model.specs.Reach.{params_reach, zone_reach}
use Rattle.sheet_geometry.specs.declared.cuts.Cut.{Cut}
use Rattle.sheet_geometry.specs.Sheets.{IsNearSheet, IsNearVertex, IsSheet, IsSheetParts, IsSheetPlane, IsSmall}
use Rattle.sheet_geometry.specs.Windows.{IsCut, moved_vertex, moved_zone, points_of, right_of, rows_below, shown_plane, up_of, window}
use Rattle.sheet_geometry.proofs.Parts.{height-is, maxval-same, plates-same, width-is, zone_at-is, zones-same}

pub all_mapped : {X Y : Type 0} (P : X → Type 0) (Q : Y → Type 0) (f : X → Y) (xs : List X) → ((x : X) → P x → Q (f x)) → All P xs → All Q (map f xs)
all_mapped P Q f [] each all = λ k d here. absurd (omega (arith, here))
all_mapped P Q f (x ∷ xs) each all = λ k d here. (let l : k < length (x ∷ xs) = (let e = length-map (x ∷ xs) f in omega (arith, here, e)) in
    subst Q (sym (get_or-map f (x ∷ xs) k x d l)) (each (slice_index_or (x ∷ xs) k x) (all k x l)))

tint_low : (m : ℕ) (tints : List ℕ) (k : ℕ) → All (λ t. t ≤ m) tints → slice_index tints k ≤ m
tint_low m tints k all = elim (cases_lt k (length tints)) [
  | inl l ↦ all k 0 l
  | inr more ↦ (let e : slice_index tints k ≡ 0 = get_or_past tints k 0 more in omega (arith, e))
]

shown_is_plane : (sheet : PageParts) (cut : Cut) (plane : Plane) → IsCut sheet cut → IsSmall sheet cut → IsSheetPlane plane → IsPlane (shown_plane (width sheet) cut plane)
shown_is_plane sheet cut plane is small p = record {
  some_width = is.some_width;
  narrow = small.narrow;
  some_height = is.some_height;
  low = small.low;
  some_maxval = p.some_maxval;
  maxval_fits = p.maxval_fits;
  full = length-list_below (λ k. slice_index plane.tints ((cut.top + k / cut.width) * width sheet + (cut.left + k % cut.width))) (cut.width * cut.height);
  below = all_below (λ t. t ≤ plane.maxval) (λ k. slice_index plane.tints ((cut.top + k / cut.width) * width sheet + (cut.left + k % cut.width))) (cut.width * cut.height) (λ k _. tint_low plane.maxval plane.tints ((cut.top + k / cut.width) * width sheet + (cut.left + k % cut.width)) p.below);
}

quotient_grows : (a b r : ℕ) → a ≤ b → a / r ≤ b / r
quotient_grows a b r l = elim (cases_eq r 0) [
  | inl e ↦ rw e (omega arith)
  | inr some ↦ le-div (a / r) b r (omega (arith, some)) (let t = div-mul-le_self a r in omega (arith, t, l))
]

pub points_grow : (resolution a b : ℕ) → a ≤ b → points_of resolution a ≤ points_of resolution b
points_grow resolution a b l = quotient_grows (720000 * a) (720000 * b) resolution (omega (arith, l))

near_moved : (v : ℤ) (far moved most : ℕ) → nat_abs v + far ≤ most → moved ≤ far → nat_abs (v -ℤ pos moved) ≤ most
near_moved v far moved most a b = omega (arith, ints)

vertex_is : (sheet : PageParts) (cut : Cut) (v : Vertex) → IsCut sheet cut → IsNearVertex sheet v → IsVertex (moved_vertex (right_of sheet cut) (up_of sheet cut) v)
vertex_is sheet cut v is near = record {
  x_near = near_moved v.x (points_of sheet.resolution (width sheet)) (right_of sheet cut) most_coordinate near.x (points_grow sheet.resolution cut.left (width sheet) (let a = is.across in omega (arith, a)));
  y_near = near_moved v.y (points_of sheet.resolution (height sheet)) (up_of sheet cut) most_coordinate near.y (points_grow sheet.resolution (rows_below sheet cut) (height sheet) (omega arith));
}

begins-moved : (right up : ℕ) (path : List Vertex) → begins (map (moved_vertex right up) path) ≡ begins path
begins-moved right up [] = refl
begins-moved right up (v ∷ vs) = refl

zone_is : (sheet : PageParts) (cut : Cut) (zone : Zone) → IsCut sheet cut → IsZone zone × All (IsNearVertex sheet) zone.path → IsZone (moved_zone (right_of sheet cut) (up_of sheet cut) zone)
zone_is sheet cut zone is both =
    let z = both.0 in
    record {
      params = z.params;
      path = record {
        begun = begins-moved (right_of sheet cut) (up_of sheet cut) zone.path ∙ z.path.begun;
        few = (let e = length-map zone.path (moved_vertex (right_of sheet cut) (up_of sheet cut)) in let few = z.path.few in omega (arith, e, few));
        near = all_mapped (IsNearVertex sheet) IsVertex (moved_vertex (right_of sheet cut) (up_of sheet cut)) zone.path (λ v n. vertex_is sheet cut v is n) both.1;
      };
      limits = z.limits;
    }

vertices-moved : (right up : ℕ) (zones : List Zone) → sum_by (λ (z : Zone). length z.path) (map (moved_zone right up) zones) ≡ sum_by (λ (z : Zone). length z.path) zones
vertices-moved right up [] = refl
vertices-moved right up (z ∷ zs) =
    let a = sum_by-cons (λ (zone : Zone). length zone.path) (moved_zone right up z) (map (moved_zone right up) zs) in
    let b = sum_by-cons (λ (zone : Zone). length zone.path) z zs in
    let c = length-map z.path (moved_vertex right up) in
    a ∙ (λ i. c i + vertices-moved right up zs i) ∙ sym b

both_all : {X : Type 0} (P Q : X → Type 0) (xs : List X) → All P xs → All Q xs → All (λ x. P x × Q x) xs
both_all P Q xs p q = λ k d here. (p k d here, q k d here)

shown_in_range : (sheet : PageParts) (cut : Cut) (plane : Plane) → IsCut sheet cut → IsSheetPlane plane → IsSheetPlane (shown_plane (width sheet) cut plane)
shown_in_range sheet cut plane is p = record {
  some_width = is.some_width;
  some_height = is.some_height;
  some_maxval = p.some_maxval;
  maxval_fits = p.maxval_fits;
  full = length-list_below (λ k. slice_index plane.tints ((cut.top + k / cut.width) * width sheet + (cut.left + k % cut.width))) (cut.width * cut.height);
  below = all_below (λ t. t ≤ plane.maxval) (λ k. slice_index plane.tints ((cut.top + k / cut.width) * width sheet + (cut.left + k % cut.width))) (cut.width * cut.height) (λ k _. tint_low plane.maxval plane.tints ((cut.top + k / cut.width) * width sheet + (cut.left + k % cut.width)) p.below);
}

-- past no end the default does not matter
pub any_default : {X : Type 0} (xs : List X) (k : ℕ) (d e : X) → k < length xs → slice_index_or xs k d ≡ slice_index_or xs k e
any_default [] k d e l = absurd (omega (arith, l))
any_default (x ∷ xs) zero d e l = refl
any_default (x ∷ xs) (suc k) d e l = any_default xs k d e (omega (arith, l))

-- what a page may be made of, a sheet may be made of
pub parts_of_sheet : (page : PageParts) → IsParts page → IsSheetParts page
parts_of_sheet page is = record {
  some_plates = is.some_plates;
  few_plates = is.few_plates;
  one_ink_each = is.one_ink_each;
  some_zones = is.some_zones;
  few_zones = is.few_zones;
  planes_in_range = λ k d l. (let p = is.planes_in_range k d l in record {
    some_width = p.some_width;
    some_height = p.some_height;
    some_maxval = p.some_maxval;
    maxval_fits = p.maxval_fits;
    full = p.full;
    below = p.below;
  });
  inks_in_range = is.inks_in_range;
  zones_in_range = is.zones_in_range;
  zone_0 = is.zone_0;
  few_vertices = is.few_vertices;
  fine = is.fine;
  resolved = is.resolved;
}

-- a sheet within the limits of a page is a page
pub sheet_is_page : (sheet : PageParts) → IsSheet sheet → width sheet ≤ most_side → height sheet ≤ most_side → width sheet * height sheet * plates sheet ≤ most_samples → IsPage sheet
sheet_is_page sheet ok narrow low few = record {
  parts = record {
    some_plates = ok.parts.some_plates;
    few_plates = ok.parts.few_plates;
    one_ink_each = ok.parts.one_ink_each;
    some_zones = ok.parts.some_zones;
    few_zones = ok.parts.few_zones;
    planes_in_range = λ k d l. plane_is k d l;
    inks_in_range = ok.parts.inks_in_range;
    zones_in_range = ok.parts.zones_in_range;
    zone_0 = ok.parts.zone_0;
    few_vertices = ok.parts.few_vertices;
    fine = ok.parts.fine;
    resolved = ok.parts.resolved;
  };
  agree = ok.agree;
  few_samples = few;
  near = ok.near;
} where
  plane_is : (k : ℕ) (d : Plane) → k < length sheet.planes → IsPlane (slice_index_or sheet.planes k d)
  plane_is k d l =
      let p = ok.parts.planes_in_range k d l in
      let same : slice_index_or sheet.planes k d ≡ plane_at sheet.planes k = any_default sheet.planes k d no_plane l in
      let wide : (slice_index_or sheet.planes k d).width ≡ width sheet = ap (λ (plane : Plane). plane.width) same ∙ (ok.agree k l).wide in
      let tall : (slice_index_or sheet.planes k d).height ≡ height sheet = ap (λ (plane : Plane). plane.height) same ∙ (ok.agree k l).tall in
      record {
        some_width = p.some_width;
        narrow = omega (arith, wide, narrow);
        some_height = p.some_height;
        low = omega (arith, tall, low);
        some_maxval = p.some_maxval;
        maxval_fits = p.maxval_fits;
        full = p.full;
        below = p.below;
      }

module _ (sheet : PageParts) (cut : Cut) (ok : IsSheet sheet) (near : IsNearSheet sheet) (is : IsCut sheet cut) where
  plane-is : (c : ℕ) → c < plates (window sheet cut) → plane_at (window sheet cut).planes c ≡ shown_plane (width sheet) cut (plane_at sheet.planes c)
  plane-is c l = get_or-map (shown_plane (width sheet) cut) sheet.planes c no_plane no_plane (let e = plates-same sheet cut in omega (arith, l, e))

  agrees : (c : ℕ) → c < plates (window sheet cut) → Agrees (window sheet cut) c
  agrees c l = record {
    wide = ap (λ (plane : Plane). plane.width) (plane-is c l) ∙ sym (width-is sheet cut is);
    tall = ap (λ (plane : Plane). plane.height) (plane-is c l) ∙ sym (height-is sheet cut is);
    deep = ap (λ (plane : Plane). plane.maxval) (plane-is c l) ∙ (ok.agree c (let e = plates-same sheet cut in omega (arith, l, e))).deep ∙ sym (maxval-same sheet cut);
  }

  reaches : (z : ℕ) → zone_reach (window sheet cut) z ≡ zone_reach sheet z
  reaches z = ap (reach_of) (zone_at-is sheet cut z) where
    reach_of : Zone → ℕ
    reach_of zone = if zone.params.enabled then params_reach sheet.resolution zone.params else 0

  window_parts : IsSheetParts (window sheet cut)
  window_parts = record {
    some_plates = (let e = plates-same sheet cut in let a = ok.parts.some_plates in omega (arith, e, a));
    few_plates = (let e = plates-same sheet cut in let a = ok.parts.few_plates in omega (arith, e, a));
    one_ink_each = ok.parts.one_ink_each ∙ sym (plates-same sheet cut);
    some_zones = (let e = zones-same sheet cut in let a = ok.parts.some_zones in omega (arith, e, a));
    few_zones = (let e = zones-same sheet cut in let a = ok.parts.few_zones in omega (arith, e, a));
    planes_in_range = all_mapped IsSheetPlane IsSheetPlane (shown_plane (width sheet) cut) sheet.planes (λ plane p. shown_in_range sheet cut plane is p) ok.parts.planes_in_range;
    inks_in_range = ok.parts.inks_in_range;
    zones_in_range = all_mapped (λ (z : Zone). IsZone z × All (IsNearVertex sheet) z.path) IsZone (moved_zone (right_of sheet cut) (up_of sheet cut)) sheet.zones (λ zone z. zone_is sheet cut zone is z) (both_all IsZone (λ (z : Zone). All (IsNearVertex sheet) z.path) sheet.zones ok.parts.zones_in_range near);
    zone_0 = ap (λ (z : Zone). z.path) (zone_at-is sheet cut 0) ∙ ap (map (moved_vertex (right_of sheet cut) (up_of sheet cut))) ok.parts.zone_0;
    few_vertices = (let e = vertices-moved (right_of sheet cut) (up_of sheet cut) sheet.zones in let a = ok.parts.few_vertices in omega (arith, e, a));
    fine = ok.parts.fine;
    resolved = λ none. (let r = ok.parts.resolved none in (zones-same sheet cut ∙ r.0, ap (λ (z : Zone). z.params.enabled) (zone_at-is sheet cut 0) ∙ r.1));
  }

  -- a window of a sheet is a sheet
  pub window_is_sheet : IsSheet (window sheet cut)
  window_is_sheet = record {
    parts = window_parts;
    agree = agrees;
    near = λ z l. (let e = reaches z in let a = ok.near z (let m = zones-same sheet cut in omega (arith, l, m)) in omega (arith, e, a));
  }

  module _ (small : IsSmall sheet cut) where
    parts : IsParts (window sheet cut)
    parts = (let w = window_is_sheet in record {
      some_plates = w.parts.some_plates;
      few_plates = w.parts.few_plates;
      one_ink_each = w.parts.one_ink_each;
      some_zones = w.parts.some_zones;
      few_zones = w.parts.few_zones;
      planes_in_range = all_mapped IsSheetPlane IsPlane (shown_plane (width sheet) cut) sheet.planes (λ plane p. shown_is_plane sheet cut plane is small p) ok.parts.planes_in_range;
      inks_in_range = w.parts.inks_in_range;
      zones_in_range = w.parts.zones_in_range;
      zone_0 = w.parts.zone_0;
      few_vertices = w.parts.few_vertices;
      fine = w.parts.fine;
      resolved = w.parts.resolved;
    })

    pub window_is_page : IsPage (window sheet cut)
    window_is_page = record {
      parts = parts;
      agree = agrees;
      few_samples = (let t = λ (w h n : ℕ). w * h * n in let e : t (width (window sheet cut)) (height (window sheet cut)) (plates (window sheet cut)) ≡ t cut.width cut.height (plates sheet) = (λ i. t (width-is sheet cut is i) (height-is sheet cut is i) (plates-same sheet cut i)) in rw e small.few_samples);
      near = window_is_sheet.near;
    }
