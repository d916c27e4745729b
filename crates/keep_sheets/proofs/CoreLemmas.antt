-- The core of a window that has the halo around it is covered as on the sheet, and has its new tints and counts.
use Rattle.std.proofs.Common.{◌≡◌, ℕ, zero, suc, ◌+◌, ◌-◌, ◌*◌, ◌<◌, ◌≤◌, ◌==◌, Bool, true, false, not, List, refl, subst, ap, ◌∙◌, arith}
use Rattle.lists.specs.Words.{square}
use Rattle.page_model.specs.declared.parts.At.{At}
use Rattle.page_model.specs.declared.parts.PageParts.{PageParts}
use Rattle.page_model.specs.Page.{ink_at, tint}
use Rattle.sheet_geometry.specs.declared.cuts.Cut.{Cut}
use Rattle.sheet_geometry.specs.Areas.{one_if}
use Rattle.sheet_geometry.specs.WindowLaw.{IsInside}
use Rattle.sheet_geometry.specs.Windows.{IsCut, on_sheet, window}
use Rattle.sheet_geometry.proofs.Areas.{area-same}
use Rattle.sheet_geometry.proofs.Parts.{tint-same}
use Rattle.keepaway.specs.declared.parts.RichBlack.{RichBlack}
use Rattle.keepaway.specs.Keepaway.{near_limit}
use Rattle.keepaway.specs.Rows.{AreMarks as AreMarksUnderBlack}
use Rattle.keepaway.proofs.KeepLemmas.{mark_free as black_free}
use Rattle.underprint.specs.declared.parts.White.{White}
use Rattle.underprint.specs.Lists.{AreMarks as AreMarksUnderColour}
use Rattle.underprint.proofs.UnderLemmas.{mark_free as colour_free}
use Rattle.keep_windows.proofs.ColourLemmas.{covered_same as colour_covered}
use Rattle.keep_windows.proofs.PlaceLemmas.{deeper, lies_inside}
use Rattle.keep_windows.proofs.UnderLemmas.{followed_in, kept_same as colour_kept}
use Rattle.keep_windows.proofs.WindowLemmas.{covered_same as black_covered, kept_same as black_kept}
use Rattle.keep_pages.specs.declared.uses.KeepUse.{KeepUse}
use Rattle.keep_pages.specs.declared.uses.KeepUse.TheVariants.{UnderBlack, UnderColour}
use Rattle.keep_pages.specs.KeptPages.{covered, kept}
use Rattle.keep_sheets.specs.KeepSheets.{HasHalo, IsHalo, KeepCoreLaw, changes_at, covers_at, in_core}
use Rattle.keep_sheets.specs.KeepSums.{AreMarks}

-- nothing is near without a halo
some_halo : (near halo : ℕ) → near < square halo → 1 ≤ halo
some_halo near zero far = absurd (omega (arith, far))
some_halo near (suc n) far = omega arith

cover_same : (sheet : PageParts) (cut : Cut) (used : KeepUse) (halo : ℕ) (p : At) → IsCut sheet cut → IsHalo sheet.resolution used halo → IsInside sheet cut (2 * halo) p → covered (window sheet cut) used p ≡ covered sheet used (on_sheet cut p)
cover_same sheet cut (UnderBlack rich) halo p is enough inside =
    let some : 1 ≤ halo = some_halo (near_limit rich.width sheet.resolution) halo enough in
    black_covered sheet cut rich.limit p is (deeper sheet cut 2 p (omega (arith, some)) inside)
cover_same sheet cut (UnderColour whites) halo p is enough inside =
    let some : 1 ≤ halo = enough.0 in
    colour_covered sheet cut whites p is (deeper sheet cut 2 p (omega (arith, some)) inside)

tints_same : (sheet : PageParts) (cut : Cut) (used : KeepUse) (halo c : ℕ) (p : At) → IsCut sheet cut → IsHalo sheet.resolution used halo → IsInside sheet cut (2 * halo) p → kept (window sheet cut) used c p ≡ kept sheet used c (on_sheet cut p)
tints_same sheet cut (UnderBlack rich) halo c p is enough inside =
    let some : 1 ≤ halo = some_halo (near_limit rich.width sheet.resolution) halo enough in
    let next : halo ≡ (halo - 1) + 1 = omega (arith, some) in
    black_kept sheet cut rich c (halo - 1) p is (subst (λ (n : ℕ). near_limit rich.width sheet.resolution < square n) next enough) (deeper sheet cut (2 * ((halo - 1) + 1)) p (omega (arith, some)) inside)
tints_same sheet cut (UnderColour whites) halo c p is enough inside = colour_kept sheet cut whites halo c p is enough.0 (λ wide e. followed_in sheet.resolution whites (ink_at sheet c).name wide enough.1 e) inside

-- each pixel of a core has the halo around it
inside : (sheet : PageParts) (cut core : Cut) (halo x y : ℕ) → HasHalo sheet cut core halo → x < core.width → y < core.height → IsInside sheet cut (2 * halo) (in_core core x y)
inside sheet cut core halo x y has lx ly = record {
  x = omega (arith, has.across, lx);
  y = omega (arith, has.down, ly);
  left = λ more. let b = has.left more in omega arith;
  right = λ more. let b = has.right more in omega (arith, lx);
  top = λ more. let b = has.top more in omega arith;
  bottom = λ more. let b = has.bottom more in omega (arith, ly);
}

farther : (a b c : ℕ) → a + (b + c) ≡ a + b + c
farther a b c = omega arith

pub core_law : (sheet : PageParts) (cut core : Cut) (used : KeepUse) (halo : ℕ) → IsCut sheet cut → IsHalo sheet.resolution used halo → HasHalo sheet cut core halo → KeepCoreLaw sheet cut core used
core_law sheet cut core used halo is enough has = record {
  cover = λ x y lx ly. cover_same sheet cut used halo (in_core core x y) is enough (inside sheet cut core halo x y has lx ly);
  tints = λ x y c lx ly. tints_same sheet cut used halo c (in_core core x y) is enough (inside sheet cut core halo x y has lx ly);
  covers = area-same (covers_at used (window sheet cut)) (covers_at used sheet) core.left core.top (cut.left + core.left) (cut.top + core.top) core.width core.height
      (λ x y lx ly. ap one_if (cover_same sheet cut used halo (in_core core x y) is enough (inside sheet cut core halo x y has lx ly)) ∙ moved (covers_at used sheet) x y);
  changes = λ c. area-same (changes_at used c (window sheet cut)) (changes_at used c sheet) core.left core.top (cut.left + core.left) (cut.top + core.top) core.width core.height
      (λ x y lx ly.
      ap (λ (n : ℕ). one_if (not (n == tint (window sheet cut) c (in_core core x y)))) (tints_same sheet cut used halo c (in_core core x y) is enough (inside sheet cut core halo x y has lx ly))
      ∙ ap (λ (n : ℕ). one_if (not (kept sheet used c (on_sheet cut (in_core core x y)) == n))) (tint-same sheet cut c (in_core core x y) is (lies_inside sheet cut (2 * halo) (in_core core x y) (inside sheet cut core halo x y has lx ly)))
      ∙ moved (changes_at used c sheet) x y);
}
  where
    moved : (f : At → ℕ) (x y : ℕ) → f (on_sheet cut (in_core core x y)) ≡ f (record { x = cut.left + core.left + x; y = cut.top + core.top + y })
    moved f x y = λ i. f (record { x = farther cut.left core.left x i; y = farther cut.top core.top y i })

twice : (b : Bool) → not (not b) ≡ b
twice true = refl
twice false = refl

pub black_marks : (page : PageParts) (rich : RichBlack) (marks : List ℕ) → AreMarksUnderBlack page rich.limit marks → AreMarks page (UnderBlack rich) marks
black_marks page rich marks are = record {
  long = are.long;
  each = λ x y lx ly. ap (λ (n : ℕ). not (n == 0)) (are.each x y lx ly) ∙ ap not (black_free page rich.limit (record { x = x; y = y })) ∙ twice (covered page (UnderBlack rich) (record { x = x; y = y }));
}

pub colour_marks : (page : PageParts) (whites : List White) (marks : List ℕ) → AreMarksUnderColour page whites marks → AreMarks page (UnderColour whites) marks
colour_marks page whites marks are = record {
  long = are.long;
  each = λ x y lx ly. ap (λ (n : ℕ). not (n == 0)) (are.each x y lx ly) ∙ ap not (colour_free page whites (record { x = x; y = y })) ∙ twice (covered page (UnderColour whites) (record { x = x; y = y }));
}
