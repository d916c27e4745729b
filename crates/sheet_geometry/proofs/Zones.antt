-- A window's sample lies in the zone in which it lies on the sheet.
use Rattle.std.proofs.Common.{◌≡◌, ℕ, zero, suc, ◌+◌, ◌-◌, ◌*◌, ◌<◌, ◌≤◌, not, pos, length, refl, ap, ◌∙◌, arith, if◌then◌else◌}
use Rattle.std.specs.Prelude.{ℤ, ◌-ℤ◌}
use Rattle.std.specs.Ordering.{int_eq}
use Rattle.std.proofs.lemmas.Int.{ints}
use Rattle.page_model.specs.declared.parts.At.{At}
use Rattle.page_model.specs.declared.parts.PageParts.{PageParts}
use Rattle.page_model.specs.Page.{height, path_at}
use Rattle.page_model.specs.Zones.{centre, covers, greatest_cover, winding, zone_of}
use Rattle.sheet_geometry.specs.declared.cuts.Cut.{Cut}
use Rattle.sheet_geometry.specs.Windows.{IsCut, on_sheet, right_of, up_of, window}
use Rattle.sheet_geometry.proofs.Parts.{Lies, height-is, zone_at-is, zones-same}
use Rattle.sheet_geometry.proofs.Turns.{from, winding-from}

difference : (a b c : ℕ) → b ≡ a + c → pos a ≡ pos b -ℤ pos c
difference a b c e = omega (arith, ints)

across : (x left n : ℕ) → n ≡ 720000 * left → (2 * (left + x) + 1) * 360000 ≡ (2 * x + 1) * 360000 + n
across x left n e = omega arith

down : (y top high tall h n : ℕ) → h ≡ high → y < high → top + high ≤ tall → n ≡ 720000 * (tall - (top + high)) → (2 * (tall - (top + y)) - 1) * 360000 ≡ (2 * (h - y) - 1) * 360000 + n
down y top high tall h n eh l inside e = omega arith

-- the middle of a sample, from the window's corner
centre-from : (sheet : PageParts) (cut : Cut) (p : At) → IsCut sheet cut → Lies cut p → 1 < length sheet.zones
    → centre (window sheet cut) p ≡ from (pos (right_of sheet cut * sheet.resolution)) (pos (up_of sheet cut * sheet.resolution)) (centre sheet (on_sheet cut p))
centre-from sheet cut p is here many = λ i. record { px = px i; py = py i } where
  px : pos ((2 * p.x + 1) * 360000) ≡ pos ((2 * (cut.left + p.x) + 1) * 360000) -ℤ pos (right_of sheet cut * sheet.resolution)
  px = difference _ _ _ (across p.x cut.left (right_of sheet cut * sheet.resolution) (is.exact_right many))

  py : pos ((2 * (height (window sheet cut) - p.y) - 1) * 360000) ≡ pos ((2 * (height sheet - (cut.top + p.y)) - 1) * 360000) -ℤ pos (up_of sheet cut * sheet.resolution)
  py = difference _ _ _ (down p.y cut.top cut.height (height sheet) (height (window sheet cut)) (up_of sheet cut * sheet.resolution) (height-is sheet cut is) here.y is.down (is.exact_up many))

covers-same : (sheet : PageParts) (cut : Cut) (p : At) (z : ℕ) → IsCut sheet cut → Lies cut p → 1 < length sheet.zones → covers (window sheet cut) p z ≡ covers sheet (on_sheet cut p) z
unfolding covers
covers-same sheet cut p z is here many =
    ap (λ (n : ℤ). not (int_eq n (pos 0)))
    ((λ i. winding sheet.resolution (centre-from sheet cut p is here many i) (zone_at-is sheet cut z i).path)
    ∙ winding-from sheet.resolution (right_of sheet cut) (up_of sheet cut) (centre sheet (on_sheet cut p)) (path_at sheet z))

greatest_cover-same : (sheet : PageParts) (cut : Cut) (p : At) (n : ℕ) → IsCut sheet cut → Lies cut p → n < length sheet.zones → greatest_cover (window sheet cut) p n ≡ greatest_cover sheet (on_sheet cut p) n
greatest_cover-same sheet cut p zero is here l = refl
greatest_cover-same sheet cut p (suc n) is here l =
    let many : 1 < length sheet.zones = omega (arith, l) in
    let less : n < length sheet.zones = omega (arith, l) in
    (λ i. if covers-same sheet cut p (suc n) is here many i then suc n else greatest_cover-same sheet cut p n is here less i)

pub zone_of-same : (sheet : PageParts) (cut : Cut) (p : At) → IsCut sheet cut → Lies cut p → zone_of (window sheet cut) p ≡ zone_of sheet (on_sheet cut p)
unfolding zone_of
zone_of-same sheet cut p is here =
    ap (λ (n : ℕ). greatest_cover (window sheet cut) p (n - 1)) (zones-same sheet cut)
    ∙ greatest_cover-same sheet cut p (length sheet.zones - 1) is here (let some = is.some_zones in omega (arith, some))
