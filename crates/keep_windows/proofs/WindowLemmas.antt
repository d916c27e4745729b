-- Inner pixels of a window are covered by black and drawn back as on the sheet.
use Rattle.std.proofs.Common.{◌≡◌, ℕ, ◌+◌, ◌*◌, ◌<◌, ◌==◌, Bool, ◌&&◌, ◌||◌, not, refl, ap, ◌∙◌, arith, if◌then◌else◌}
use Rattle.lists.specs.Words.{square}
use Rattle.page_model.specs.declared.parts.At.{At}
use Rattle.page_model.specs.declared.parts.PageParts.{PageParts}
use Rattle.page_model.specs.Page.{height, tint}
use Rattle.page_model.specs.Zones.{zone_of}
use Rattle.sheet_geometry.specs.declared.cuts.Cut.{Cut}
use Rattle.sheet_geometry.specs.Windows.{IsCut, on_sheet, window}
use Rattle.sheet_geometry.specs.WindowLaw.{IsInside}
use Rattle.sheet_geometry.proofs.Parts.{Lies, height-is, tint-same, width-is}
use Rattle.draw_back.specs.Drawn.{drawn}
use Rattle.keepaway.specs.declared.parts.RichBlack.{RichBlack}
use Rattle.keepaway.specs.Keepaway.{covered, is_black_ink, is_drawn, is_open, kept, level, near_limit, scene, touches}
use Rattle.keep_windows.proofs.AlikeLemmas.{black_same, level_same, open_same}
use Rattle.keep_windows.proofs.PlaceLemmas.{deep, deeper, lies_in, lies_inside}
use Rattle.keep_windows.proofs.SceneLemmas.{AreAlike, drawn_near}
use Rattle.keep_windows.proofs.TouchLemmas.{touching, touching_same}

touches_same : (sheet : PageParts) (cut : Cut) (limit : ℕ) (p : At) → IsCut sheet cut → IsInside sheet cut 2 p → touches (window sheet cut) limit p ≡ touches sheet limit (on_sheet cut p)
touches_same sheet cut limit p is inside =
    ap (λ (n : ℕ). touching n (height (window sheet cut)) small p) (width-is sheet cut is)
    ∙ ap (λ (n : ℕ). touching cut.width n small p) (height-is sheet cut is)
    ∙ touching_same sheet cut p small on is inside (λ j k in_row on_page. ap (λ (n : ℕ). n == 2) (level_same sheet cut limit (record { x = j; y = k }) is (lies_in cut j k in_row on_page)))
  where
    small : ℕ → ℕ → Bool
    small y j = level (window sheet cut) limit (record { x = j; y = y }) == 2

    on : ℕ → ℕ → Bool
    on y j = level sheet limit (record { x = j; y = y }) == 2

-- a pixel with its neighbours is covered as on the sheet
pub covered_same : (sheet : PageParts) (cut : Cut) (limit : ℕ) (p : At) → IsCut sheet cut → IsInside sheet cut 2 p → covered (window sheet cut) limit p ≡ covered sheet limit (on_sheet cut p)
unfolding covered
covered_same sheet cut limit p is inside =
    ap (λ (n : ℕ). (n == 2) || ((n == 1) && touches (window sheet cut) limit p)) (level_same sheet cut limit p is (lies_inside sheet cut 2 p inside))
    ∙ ap (λ (b : Bool). (level sheet limit (on_sheet cut p) == 2) || ((level sheet limit (on_sheet cut p) == 1) && b)) (touches_same sheet cut limit p is inside)

-- what the rule sees of a window near a pixel that is deep in it
scenes_alike : (sheet : PageParts) (cut : Cut) (rich : RichBlack) (c radius : ℕ) (p : At) → IsCut sheet cut → near_limit rich.width sheet.resolution < square (radius + 1) → IsInside sheet cut (2 * (radius + 1)) p → AreAlike sheet cut (scene (window sheet cut) rich c) (scene sheet rich c) radius p
scenes_alike sheet cut rich c radius p is beyond inside = record {
  wide = width-is sheet cut is;
  tall = height-is sheet cut is;
  sheet_wide = refl;
  sheet_tall = refl;
  limit = refl;
  beyond = beyond;
  free = λ j k near_x near_y in_row on_page. ap not (covered_same sheet cut rich.limit (record { x = j; y = k }) is (deep sheet cut radius p j k inside near_x near_y in_row on_page));
  tint = λ j k in_row on_page. tint-same sheet cut c (record { x = j; y = k }) is (lies_in cut j k in_row on_page);
}

pub kept_same : (sheet : PageParts) (cut : Cut) (rich : RichBlack) (c radius : ℕ) (p : At) → IsCut sheet cut → near_limit rich.width sheet.resolution < square (radius + 1) → IsInside sheet cut (2 * (radius + 1)) p → kept (window sheet cut) rich c p ≡ kept sheet rich c (on_sheet cut p)
kept_same sheet cut rich c radius p is beyond inside =
    let q = on_sheet cut p in
    let here : Lies cut p = lies_inside sheet cut (2 * (radius + 1)) p inside in
    let on = is_drawn sheet rich.spared c in
    let new = drawn (scene (window sheet cut) rich c) p.x p.y in
    let old = tint (window sheet cut) c p in
    ap (λ (b : Bool). if on && b && is_open (window sheet cut) p && not (is_black_ink (window sheet cut) (zone_of (window sheet cut) p) c) then new else old) (covered_same sheet cut rich.limit p is (deeper sheet cut 2 p (omega arith) inside))
    ∙ ap (λ (b : Bool). if on && covered sheet rich.limit q && b && not (is_black_ink (window sheet cut) (zone_of (window sheet cut) p) c) then new else old) (open_same sheet cut p is here)
    ∙ ap (λ (b : Bool). if on && covered sheet rich.limit q && is_open sheet q && not b then new else old) (black_same sheet cut p c is here)
    ∙ ap (λ (n : ℕ). if on && covered sheet rich.limit q && is_open sheet q && not (is_black_ink sheet (zone_of sheet q) c) then n else old) (drawn_near sheet cut (scene (window sheet cut) rich c) (scene sheet rich c) radius p is (scenes_alike sheet cut rich c radius p is beyond inside) (deeper sheet cut (2 * radius) p (omega arith) inside))
    ∙ ap (λ (n : ℕ). if on && covered sheet rich.limit q && is_open sheet q && not (is_black_ink sheet (zone_of sheet q) c) then drawn (scene sheet rich c) q.x q.y else n) (tint-same sheet cut c p is here)
