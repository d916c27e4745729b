-- Inner pixels of a window are covered by colour as on the sheet.
use Rattle.std.proofs.Common.{◌≡◌, ℕ, zero, suc, ◌+◌, ◌*◌, ◌==◌, Bool, ◌&&◌, ◌||◌, not, nat_le, List, refl, ap, ◌∙◌, arith, if◌then◌else◌}
use Rattle.std.proofs.lemmas.Bool.Decides.{nat_tests}
use Rattle.lists.specs.Words.{sum_below}
use Rattle.page_model.specs.declared.parts.At.{At}
use Rattle.page_model.specs.declared.parts.PageParts.{PageParts}
use Rattle.page_model.specs.Page.{height, maxval, plates}
use Rattle.sheet_geometry.specs.declared.cuts.Cut.{Cut}
use Rattle.sheet_geometry.specs.Windows.{IsCut, on_sheet, window}
use Rattle.sheet_geometry.specs.WindowLaw.{IsInside}
use Rattle.sheet_geometry.proofs.Parts.{Lies, height-is, maxval-same, plates-same, tint-same, width-is}
use Rattle.underprint.specs.declared.parts.White.{White}
use Rattle.underprint.specs.Underprint.{colour_tint, covered, has_colour, is_colour, is_outline, touches_outline}
use Rattle.keep_windows.proofs.PlaceLemmas.{lies_in, lies_inside}
use Rattle.keep_windows.proofs.TouchLemmas.{same_test, touching, touching_same}

sum_below-same : (f g : ℕ → ℕ) (n : ℕ) → ((k : ℕ) → f k ≡ g k) → sum_below f n ≡ sum_below g n
sum_below-same f g zero each = refl
sum_below-same f g (suc n) each = rw (sum_below-same f g n each, each n) refl

colour_tint-same : (sheet : PageParts) (cut : Cut) (whites : List White) (p : At) (c : ℕ) → IsCut sheet cut → Lies cut p → colour_tint (window sheet cut) whites p c ≡ colour_tint sheet whites (on_sheet cut p) c
colour_tint-same sheet cut whites p c is lies = ap (λ (t : ℕ). if is_colour sheet whites c then t else 0) (tint-same sheet cut c p is lies)

-- a pixel has colour as on the sheet
colour_same : (sheet : PageParts) (cut : Cut) (whites : List White) (p : At) → IsCut sheet cut → Lies cut p → has_colour (window sheet cut) whites p ≡ has_colour sheet whites (on_sheet cut p)
colour_same sheet cut whites p is lies =
    ap (λ (m : ℕ). nat_le m (10 * sum_below (colour_tint (window sheet cut) whites p) (plates (window sheet cut)))) (maxval-same sheet cut)
    ∙ ap (λ (n : ℕ). nat_le (maxval sheet) (10 * sum_below (colour_tint (window sheet cut) whites p) n)) (plates-same sheet cut)
    ∙ ap (λ (s : ℕ). nat_le (maxval sheet) (10 * s)) (sum_below-same (colour_tint (window sheet cut) whites p) (colour_tint sheet whites (on_sheet cut p)) (plates sheet) (λ c. colour_tint-same sheet cut whites p c is lies))

same_place : (low a b : ℕ) → (a == b) ≡ (low + a == low + b)
same_place low a b = same_test (a == b) (low + a == low + b) (λ e. grind (arith, nat_tests)) (λ e. grind (arith, nat_tests))

outline_same : (sheet : PageParts) (cut : Cut) (whites : List White) (p : At) (y j : ℕ) → IsCut sheet cut → Lies cut (record { x = j; y = y }) → is_outline (window sheet cut) whites p y j ≡ is_outline sheet whites (on_sheet cut p) (cut.top + y) (cut.left + j)
outline_same sheet cut whites p y j is lies =
    ap (λ (b : Bool). not (b && (j == p.x)) && not (has_colour (window sheet cut) whites (record { x = j; y = y }))) (same_place cut.top y p.y)
    ∙ ap (λ (b : Bool). not ((cut.top + y == cut.top + p.y) && b) && not (has_colour (window sheet cut) whites (record { x = j; y = y }))) (same_place cut.left j p.x)
    ∙ ap (λ (b : Bool). not ((cut.top + y == cut.top + p.y) && (cut.left + j == cut.left + p.x)) && not b) (colour_same sheet cut whites (record { x = j; y = y }) is lies)

touches_same : (sheet : PageParts) (cut : Cut) (whites : List White) (p : At) → IsCut sheet cut → IsInside sheet cut 2 p → touches_outline (window sheet cut) whites p ≡ touches_outline sheet whites (on_sheet cut p)
touches_same sheet cut whites p is inside =
    ap (λ (n : ℕ). touching n (height (window sheet cut)) (is_outline (window sheet cut) whites p) p) (width-is sheet cut is)
    ∙ ap (λ (n : ℕ). touching cut.width n (is_outline (window sheet cut) whites p) p) (height-is sheet cut is)
    ∙ touching_same sheet cut p (is_outline (window sheet cut) whites p) (is_outline sheet whites (on_sheet cut p)) is inside
    (λ j k in_row on_page. outline_same sheet cut whites p k j is (lies_in cut j k in_row on_page))

-- a pixel with its neighbours is covered as on the sheet
pub covered_same : (sheet : PageParts) (cut : Cut) (whites : List White) (p : At) → IsCut sheet cut → IsInside sheet cut 2 p → covered (window sheet cut) whites p ≡ covered sheet whites (on_sheet cut p)
unfolding covered
covered_same sheet cut whites p is inside =
    ap (λ (b : Bool). b || not (touches_outline (window sheet cut) whites p)) (colour_same sheet cut whites p is (lies_inside sheet cut 2 p inside))
    ∙ ap (λ (b : Bool). has_colour sheet whites (on_sheet cut p) || not b) (touches_same sheet cut whites p is inside)
