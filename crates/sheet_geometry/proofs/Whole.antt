-- The window that is the whole sheet is the sheet.
use Rattle.std.proofs.Common.{◌≡◌, ℕ, ◌+◌, ◌-◌, ◌*◌, ◌/◌, ◌%◌, ◌<◌, List, [], ◌∷◌, length, slice_index, pos, refl, sym, ap, ◌∙◌, arith, div-add-mod'}
use Rattle.std.specs.Prelude.{ℤ, ◌-ℤ◌, map}
use Rattle.std.proofs.lemmas.Int.{ints}
use Rattle.std.proofs.lemmas.List.{ext_get_or, get_or-map, length-map}
use Rattle.page_model.specs.declared.parts.PageParts.{PageParts}
use Rattle.page_model.specs.declared.parts.Plane.{Plane}
use Rattle.page_model.specs.declared.parts.Vertex.{Vertex}
use Rattle.page_model.specs.declared.parts.Zone.{Zone}
use Rattle.lists.specs.Words.{list_below}
use Rattle.lists.proofs.ListBelow.{list_below-from}
use Rattle.page_model.specs.Page.{height, plates, width}
use Rattle.page_model.specs.Planes.{no_plane, plane_at}
use Rattle.sheet_geometry.specs.Sheets.{IsSheet}
use Rattle.sheet_geometry.specs.Whole.{WholeLaw, whole}
use Rattle.sheet_geometry.specs.Windows.{IsCut, moved_vertex, moved_zone, points_of, right_of, shown_plane, up_of}

no_points : (r : ℕ) → (720000 * 0) / r ≡ 0
no_points r = omega arith

none_right : (sheet : PageParts) → right_of sheet (whole sheet) ≡ 0
none_right sheet = no_points sheet.resolution

none_up : (sheet : PageParts) → up_of sheet (whole sheet) ≡ 0
none_up sheet = (let e : height sheet - (0 + height sheet) ≡ 0 = omega arith in ap (points_of sheet.resolution) e ∙ no_points sheet.resolution)

not_moved : (v : ℤ) → v -ℤ pos 0 ≡ v
not_moved v = omega (arith, ints)

path_stays : (path : List Vertex) → map (moved_vertex 0 0) path ≡ path
path_stays [] = refl
path_stays (v ∷ vs) = λ i. record { x = not_moved v.x i; y = not_moved v.y i; starts = v.starts } ∷ path_stays vs i

zones_stay : (zones : List Zone) → map (moved_zone 0 0) zones ≡ zones
zones_stay [] = refl
zones_stay (z ∷ zs) = λ i. record { params = z.params; path = path_stays z.path i; limits = z.limits } ∷ zones_stay zs i

same_place : (w k : ℕ) → k ≡ (0 + k / w) * w + (0 + k % w)
same_place w k = (let t = div-add-mod' k w in omega (arith, t))

plane_stays : (w h : ℕ) (plane : Plane) → plane.width ≡ w → plane.height ≡ h → length plane.tints ≡ plane.width * plane.height → shown_plane w (record { left = 0; top = 0; width = w; height = h }) plane ≡ plane
plane_stays w h plane ew eh full =
    let long : length plane.tints ≡ w * h = full ∙ (λ i. ew i * eh i) in
    let tints : plane.tints ≡ list_below (λ k. slice_index plane.tints ((0 + k / w) * w + (0 + k % w))) (w * h) = list_below-from (λ k. slice_index plane.tints ((0 + k / w) * w + (0 + k % w))) (w * h) plane.tints long (λ k _. ap (slice_index plane.tints) (same_place w k)) in
    (λ i. record { width = sym ew i; height = sym eh i; maxval = plane.maxval; tints = sym tints i })

planes_stay : (sheet : PageParts) → IsSheet sheet → map (shown_plane (width sheet) (whole sheet)) sheet.planes ≡ sheet.planes
planes_stay sheet ok =
    let f : Plane → Plane = shown_plane (width sheet) (whole sheet) in
    let long : length (map f sheet.planes) ≡ length sheet.planes = length-map sheet.planes f in
    ext_get_or no_plane (map f sheet.planes) sheet.planes long (λ c l. (let m : c < plates sheet = omega (arith, l, long) in
    get_or-map f sheet.planes c no_plane no_plane m
    ∙ plane_stays (width sheet) (height sheet) (plane_at sheet.planes c) (ok.agree c m).wide (ok.agree c m).tall (ok.parts.planes_in_range c no_plane m).full))

whole_is_cut : (sheet : PageParts) → IsSheet sheet → IsCut sheet (whole sheet)
whole_is_cut sheet ok =
    let first = ok.parts.planes_in_range 0 no_plane (let a = ok.parts.some_plates in omega (arith, a)) in
    record {
      some_plates = ok.parts.some_plates;
      some_zones = ok.parts.some_zones;
      some_width = first.some_width;
      some_height = first.some_height;
      across = omega arith;
      down = omega arith;
      exact_right = λ _. (let e = none_right sheet in ap (λ (n : ℕ). n * sheet.resolution) e ∙ omega arith);
      exact_up = λ _. (let e = none_up sheet in ap (λ (n : ℕ). n * sheet.resolution) e ∙ omega arith);
    }

pub whole_law : (sheet : PageParts) → IsSheet sheet → WholeLaw sheet
whole_law sheet ok = record {
  cut = whole_is_cut sheet ok;
  same = λ i. record { resolution = sheet.resolution; planes = planes_stay sheet ok i; inks = sheet.inks; zones = zones i };
} where
  zones : map (moved_zone (right_of sheet (whole sheet)) (up_of sheet (whole sheet))) sheet.zones ≡ sheet.zones
  zones = (λ i. map (moved_zone (none_right sheet i) (none_up sheet i)) sheet.zones) ∙ zones_stay sheet.zones
