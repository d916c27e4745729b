-- Inner pixels of a window under colour are drawn back as on the sheet.
use Rattle.std.proofs.Common.{◌≡◌, ℕ, ◌+◌, ◌-◌, ◌*◌, ◌/◌, ◌<◌, ◌≤◌, ◌⊎◌, Bool, true, false, not, List, [], ◌∷◌, Option, Some, None, refl, subst, ap, ◌∙◌, inl, inr, arith, if◌then◌else◌}
use Rattle.std.proofs.Math.Nat.{div-lt_iff_lt-mul, mul-mul-mul_comm}
use Rattle.std.proofs.lemmas.List.Elements.{All-head, All-tail}
use Rattle.std.proofs.lemmas.Nat.{mul-lt}
use Rattle.std.specs.List.{All}
use Rattle.std.specs.Str.{bytes_eq}
use Rattle.lists.specs.Words.{square}
use Rattle.page_model.specs.declared.parts.At.{At}
use Rattle.page_model.specs.declared.parts.PageParts.{PageParts}
use Rattle.page_model.specs.Page.{tint}
use Rattle.sheet_geometry.specs.declared.cuts.Cut.{Cut}
use Rattle.sheet_geometry.specs.Windows.{IsCut, on_sheet, window}
use Rattle.sheet_geometry.specs.WindowLaw.{IsInside}
use Rattle.sheet_geometry.proofs.Parts.{height-is, tint-same, width-is}
use Rattle.draw_back.specs.Drawn.{drawn}
use Rattle.keepaway.specs.Keepaway.{near_limit}
use Rattle.underprint.specs.declared.parts.White.{White}
use Rattle.underprint.specs.Underprint.{covered, drawn_to, followed, kept, kept_by, limit_at, scene, thickness, width_in, width_of}
use Rattle.underprint.proofs.UnderLemmas.{limit_most}
use Rattle.keep_windows.proofs.ColourLemmas.{covered_same}
use Rattle.keep_windows.proofs.ThickLemmas.{thickness_same}
use Rattle.keep_windows.proofs.PlaceLemmas.{deep, deeper, lies_in, lies_inside}
use Rattle.keep_windows.proofs.SceneLemmas.{AreAlike, drawn_near}

first_or_rest : (b : Bool) (here wide : ℕ) (rest : Option ℕ) → (if b then Some here else rest) ≡ Some wide → (here ≡ wide) ⊎ (rest ≡ Some wide)
first_or_rest true here wide rest e = inl (cc)
first_or_rest false here wide rest e = inr e

-- the ink of an underprint is followed no farther than that of each
pub followed_in : {most : ℕ} (resolution : ℕ) (whites : List White) (name : List ℕ) (wide : ℕ) → All (λ (white : White). followed white.width resolution ≤ most) whites → width_in whites name ≡ Some wide → followed wide resolution ≤ most
followed_in resolution [] name wide all e = absurd (cc)
followed_in {most} resolution (w ∷ ws) name wide all e = elim (first_or_rest (bytes_eq name w.name) w.width wide (width_in ws name) e) [
  | inl here ↦ subst (λ (n : ℕ). followed n resolution ≤ most) here (All-head (λ (white : White). followed white.width resolution ≤ most) w ws all)
  | inr rest ↦ followed_in resolution ws name wide (All-tail (λ (white : White). followed white.width resolution ≤ most) w ws all) rest
]

-- the width and half a pixel are less than three widths, rounded up, and less than a pixel where there is no width
reach_less : (reach halo : ℕ) → 1 ≤ halo → (3 * reach + 719999) / 720000 ≤ halo → reach + 360000 < halo * 720000
reach_less reach halo some most = omega arith

pub square_less : (reach halo side : ℕ) → 0 < side → reach < halo * side → (reach * reach) / (side * side) < halo * halo
square_less reach halo side some less = (div-lt_iff_lt-mul (mul-lt 0 0 side side some some)).1
    (subst (λ (n : ℕ). reach * reach < n) (mul-mul-mul_comm halo side halo side) (mul-lt reach reach (halo * side) (halo * side) less less))

-- so nothing is near that lies as far away as ink is followed
near_less : (wide resolution halo : ℕ) → 1 ≤ halo → followed wide resolution ≤ halo → near_limit wide resolution < square halo
near_less wide resolution halo some most = square_less (wide * resolution + 360000) halo 720000 (omega arith) (reach_less (wide * resolution) halo some most)

-- what the rule sees of a window near a pixel that is deep in it
scenes_alike : (sheet : PageParts) (cut : Cut) (whites : List White) (c limit radius : ℕ) (p : At) → IsCut sheet cut → limit < square (radius + 1) → IsInside sheet cut (2 * (radius + 1)) p → AreAlike sheet cut (scene (window sheet cut) whites c limit) (scene sheet whites c limit) radius p
scenes_alike sheet cut whites c limit radius p is beyond inside = record {
  wide = width-is sheet cut is;
  tall = height-is sheet cut is;
  sheet_wide = refl;
  sheet_tall = refl;
  limit = refl;
  beyond = beyond;
  free = λ j k near_x near_y in_row on_page. ap not (covered_same sheet cut whites (record { x = j; y = k }) is (deep sheet cut radius p j k inside near_x near_y in_row on_page));
  tint = λ j k in_row on_page. tint-same sheet cut c (record { x = j; y = k }) is (lies_in cut j k in_row on_page);
}

-- a pixel deep in the window is drawn back to a limit as on the sheet
drawn_to-same : (sheet : PageParts) (cut : Cut) (whites : List White) (c limit radius : ℕ) (p : At) → IsCut sheet cut → limit < square (radius + 1) → IsInside sheet cut (2 * (radius + 1)) p → drawn_to (window sheet cut) whites c limit p ≡ drawn_to sheet whites c limit (on_sheet cut p)
drawn_to-same sheet cut whites c limit radius p is beyond inside =
    let q = on_sheet cut p in
    ap (λ (b : Bool). if b then drawn (scene (window sheet cut) whites c limit) p.x p.y else tint (window sheet cut) c p) (covered_same sheet cut whites p is (deeper sheet cut 2 p (omega arith) inside))
    ∙ ap (λ (n : ℕ). if covered sheet whites q then n else tint (window sheet cut) c p) (drawn_near sheet cut (scene (window sheet cut) whites c limit) (scene sheet whites c limit) radius p is (scenes_alike sheet cut whites c limit radius p is beyond inside) (deeper sheet cut (2 * radius) p (omega arith) inside))
    ∙ ap (λ (n : ℕ). if covered sheet whites q then drawn (scene sheet whites c limit) q.x q.y else n) (tint-same sheet cut c p is (lies_inside sheet cut (2 * (radius + 1)) p inside))

-- and to its own limit
kept_by-same : (sheet : PageParts) (cut : Cut) (whites : List White) (halo c wide : ℕ) (p : At) → IsCut sheet cut → 1 ≤ halo → followed wide sheet.resolution ≤ halo → IsInside sheet cut (2 * halo) p → kept_by (window sheet cut) whites (Some wide) c p ≡ kept_by sheet whites (Some wide) c (on_sheet cut p)
kept_by-same sheet cut whites halo c wide p is some most inside =
    let limit = limit_at wide sheet.resolution (thickness sheet wide c (on_sheet cut p)) in
    let low : limit ≤ near_limit wide sheet.resolution = limit_most wide sheet.resolution (thickness sheet wide c (on_sheet cut p)) in
    let beyond : near_limit wide sheet.resolution < square halo = near_less wide sheet.resolution halo some most in
    let next : halo ≡ (halo - 1) + 1 = omega arith in
    ap (λ (n : ℕ). drawn_to (window sheet cut) whites c (limit_at wide sheet.resolution n) p) (thickness_same sheet cut wide c p is (deeper sheet cut (2 * followed wide sheet.resolution) p (omega (arith, most)) inside))
    ∙ drawn_to-same sheet cut whites c limit (halo - 1) p is (subst (λ (n : ℕ). limit < square n) next (omega (arith, low, beyond))) (deeper sheet cut (2 * ((halo - 1) + 1)) p (omega (arith, some)) inside)

pub kept_same : (sheet : PageParts) (cut : Cut) (whites : List White) (halo c : ℕ) (p : At) → IsCut sheet cut → 1 ≤ halo → ((wide : ℕ) → width_of sheet whites c ≡ Some wide → followed wide sheet.resolution ≤ halo) → IsInside sheet cut (2 * halo) p → kept (window sheet cut) whites c p ≡ kept sheet whites c (on_sheet cut p)
kept_same sheet cut whites halo c p is some most inside = by_width (width_of sheet whites c) refl
  where
    by_width : (width : Option ℕ) → width_of sheet whites c ≡ width → kept_by (window sheet cut) whites width c p ≡ kept_by sheet whites width c (on_sheet cut p)
    by_width None e = tint-same sheet cut c p is (lies_inside sheet cut (2 * halo) p inside)
    by_width (Some wide) e = kept_by-same sheet cut whites halo c wide p is some (most wide e) inside
