-- What a window is made of: its sides, its plates and zones, and its tints.
use Rattle.std.proofs.Common.{◌≡◌, ℕ, ◌+◌, ◌*◌, ◌/◌, ◌%◌, ◌<◌, ◌≤◌, List, [], ◌∷◌, length, slice_index, refl, sym, ap, ◌∙◌, arith, inl, inr}
use Rattle.std.specs.Prelude.{map}
use Rattle.std.proofs.Math.ListN.{get_or-map as mapped_at}
use Rattle.std.proofs.lemmas.Bool.{cases_lt}
use Rattle.std.proofs.lemmas.List.{get_or_past, get_or-map, length-map}
use Rattle.std.proofs.lemmas.Nat.{div-mul-add, mod-mul-add, mul-add-lt}
use Rattle.page_model.specs.declared.parts.At.{At}
use Rattle.page_model.specs.declared.parts.PageParts.{PageParts}
use Rattle.page_model.specs.declared.parts.Plane.{Plane}
use Rattle.lists.specs.Words.{list_below}
use Rattle.lists.proofs.ListBelow.{list_below-at}
use Rattle.page_model.specs.Page.{InPage, height, maxval, no_zone, place, plates, tint, width, zone_at}
use Rattle.page_model.specs.Planes.{no_plane, plane_at}
use Rattle.sheet_geometry.specs.declared.cuts.Cut.{Cut}
use Rattle.sheet_geometry.specs.Windows.{IsCut, moved_zone, on_sheet, right_of, shown_plane, up_of, window}

pub plates-same : (sheet : PageParts) (cut : Cut) → plates (window sheet cut) ≡ plates sheet
plates-same sheet cut = length-map sheet.planes (shown_plane (width sheet) cut)

pub zones-same : (sheet : PageParts) (cut : Cut) → length (window sheet cut).zones ≡ length sheet.zones
zones-same sheet cut = length-map sheet.zones (moved_zone (right_of sheet cut) (up_of sheet cut))

first_maxval : (wide : ℕ) (cut : Cut) (planes : List Plane) → (plane_at (map (shown_plane wide cut) planes) 0).maxval ≡ (plane_at planes 0).maxval
first_maxval wide cut [] = refl
first_maxval wide cut (p ∷ ps) = refl

first_width : (wide : ℕ) (cut : Cut) (planes : List Plane) → 1 ≤ length planes → (plane_at (map (shown_plane wide cut) planes) 0).width ≡ cut.width
first_width wide cut [] some = absurd (omega (arith, some))
first_width wide cut (p ∷ ps) some = refl

first_height : (wide : ℕ) (cut : Cut) (planes : List Plane) → 1 ≤ length planes → (plane_at (map (shown_plane wide cut) planes) 0).height ≡ cut.height
first_height wide cut [] some = absurd (omega (arith, some))
first_height wide cut (p ∷ ps) some = refl

pub maxval-same : (sheet : PageParts) (cut : Cut) → maxval (window sheet cut) ≡ maxval sheet
maxval-same sheet cut = first_maxval (width sheet) cut sheet.planes

pub width-is : (sheet : PageParts) (cut : Cut) → IsCut sheet cut → width (window sheet cut) ≡ cut.width
width-is sheet cut is = first_width (width sheet) cut sheet.planes is.some_plates

pub height-is : (sheet : PageParts) (cut : Cut) → IsCut sheet cut → height (window sheet cut) ≡ cut.height
height-is sheet cut is = first_height (width sheet) cut sheet.planes is.some_plates

pub zone_at-is : (sheet : PageParts) (cut : Cut) (z : ℕ) → zone_at (window sheet cut) z ≡ moved_zone (right_of sheet cut) (up_of sheet cut) (zone_at sheet z)
zone_at-is sheet cut z = mapped_at (moved_zone (right_of sheet cut) (up_of sheet cut)) sheet.zones z no_zone

-- a sample of the window has its x and y below the cut's sides
pub record Lies (cut : Cut) (p : At) : Type 0 where
  pub x : p.x < cut.width
  pub y : p.y < cut.height

pub lies : (sheet : PageParts) (cut : Cut) (p : At) → IsCut sheet cut → InPage (window sheet cut) p → Lies cut p
lies sheet cut p is in_page = record { x = omega (arith, in_page.x, width-is sheet cut is); y = omega (arith, in_page.y, height-is sheet cut is) }

-- the tint that is shown at a place
shown_tint : (wide w : ℕ) (cut : Cut) (tints : List ℕ) (x y : ℕ) → x < cut.width → y < cut.height → w ≡ cut.width
    → slice_index (list_below (λ k. slice_index tints ((cut.top + k / cut.width) * wide + (cut.left + k % cut.width))) (cut.width * cut.height)) (y * w + x) ≡ slice_index tints ((cut.top + y) * wide + (cut.left + x))
shown_tint wide w cut tints x y lx ly e =
    let at : ℕ → ℕ → ℕ = λ row column. slice_index tints ((cut.top + row) * wide + (cut.left + column)) in
    let inside : y * cut.width + x < cut.width * cut.height = (let t = mul-add-lt y cut.width x cut.height ly lx in omega (arith, t)) in
    ap (λ (n : ℕ). slice_index (list_below (λ k. at (k / cut.width) (k % cut.width)) (cut.width * cut.height)) (y * n + x)) e
    ∙ list_below-at (λ k. at (k / cut.width) (k % cut.width)) (cut.width * cut.height) (y * cut.width + x) 0 inside
    ∙ (λ i. at (div-mul-add y cut.width x lx i) (mod-mul-add y cut.width x lx i))

pub tint-same : (sheet : PageParts) (cut : Cut) (c : ℕ) (p : At) → IsCut sheet cut → Lies cut p → tint (window sheet cut) c p ≡ tint sheet c (on_sheet cut p)
tint-same sheet cut c p is here = elim (cases_lt c (plates sheet)) [
  | inl l ↦ ap (λ (plane : Plane). slice_index plane.tints (place (window sheet cut) p)) (get_or-map (shown_plane (width sheet) cut) sheet.planes c no_plane no_plane l)
      ∙ shown_tint (width sheet) (width (window sheet cut)) cut (plane_at sheet.planes c).tints p.x p.y here.x here.y (width-is sheet cut is)
  | inr more ↦ ap (λ (plane : Plane). slice_index plane.tints (place (window sheet cut) p)) (get_or_past (window sheet cut).planes c no_plane (omega (arith, more, plates-same sheet cut)))
      ∙ sym (ap (λ (plane : Plane). slice_index plane.tints (place sheet (on_sheet cut p))) (get_or_past sheet.planes c no_plane more))
]
