-- How thick the ink of a plate is at a pixel of a window, as on the sheet.
use Rattle.std.proofs.Common.{◌≡◌, ℕ, zero, suc, ◌+◌, ◌-◌, ◌*◌, ◌<◌, ◌≤◌, ◌==◌, Bool, true, false, ◌&&◌, nat_lt, refl, sym, ap, ◌∙◌, inl, inr, arith}
use Rattle.std.proofs.lemmas.Bool.{cases_lt}
use Rattle.std.proofs.lemmas.Bool.Decides.{nat_tests}
use Rattle.page_model.specs.declared.parts.At.{At}
use Rattle.page_model.specs.declared.parts.PageParts.{PageParts}
use Rattle.page_model.specs.Page.{height, tint, width}
use Rattle.sheet_geometry.specs.declared.cuts.Cut.{Cut}
use Rattle.sheet_geometry.specs.Windows.{IsCut, on_sheet, window}
use Rattle.sheet_geometry.specs.WindowLaw.{IsInside}
use Rattle.sheet_geometry.proofs.Parts.{height-is, tint-same, width-is}
use Rattle.underprint.specs.declared.way.Way.{Way}
use Rattle.underprint.specs.declared.way.Way.TheVariants.{Left, Right, Above, Below}
use Rattle.underprint.specs.Underprint.{ends_at, followed, run, run_before, thickness}

below : (a b : ℕ) → a < b → nat_lt a b ≡ true
below a b l = grind (arith, nat_tests)

not_below : (a b : ℕ) → b ≤ a → nat_lt a b ≡ false
not_below a b l = grind (arith, nat_tests)

-- two tests, each after a comparison: both pass it and are the same, or neither does
same_after : (a b s t : Bool) → a ≡ b → (a ≡ true → s ≡ t) → (a && s) ≡ (b && t)
same_after true true s t e each = each refl
same_after true false s t e each = absurd (cc)
same_after false true s t e each = absurd (cc)
same_after false false s t e each = refl

lt_is : (a b : ℕ) → nat_lt a b ≡ true → a < b
lt_is a b e = grind (arith, nat_tests)

-- a place before p's, in the window and on the sheet: none is there only at the sheet's own border
before_same : (low at k : ℕ) → (0 < low → k < at) → nat_lt k at ≡ nat_lt k (low + at)
before_same low at k halo = elim (cases_lt k at) [
  | inl l ↦ below k at l ∙ sym (below k (low + at) (omega (arith, l)))
  | inr m ↦ not_below k at m ∙ sym (not_below k (low + at) (elim (cases_lt 0 low) [ inl some ↦ let b = halo some in absurd (omega (arith, b, m)) | inr none ↦ omega (arith, none, m) ]))
]

-- and a place past it
past_same : (low size whole far : ℕ) → low + size ≤ whole → (low + size < whole → far < size) → nat_lt far size ≡ nat_lt (low + far) whole
past_same low size whole far fits halo = elim (cases_lt far size) [
  | inl l ↦ below far size l ∙ sym (below (low + far) whole (omega (arith, l, fits)))
  | inr m ↦ not_below far size m ∙ sym (not_below (low + far) whole (elim (cases_lt (low + size) whole) [ inl some ↦ let b = halo some in absurd (omega (arith, b, m)) | inr none ↦ omega (arith, none, m, fits) ]))
]

-- ink ends at a distance below the halo where it ends on the sheet
module _ (sheet : PageParts) (cut : Cut) (c : ℕ) (p : At) (n k : ℕ) (is : IsCut sheet cut) (inside : IsInside sheet cut (2 * n) p) (near : k < n) where
  ends_left : ends_at (window sheet cut) c p Left k ≡ ends_at sheet c (on_sheet cut p) Left k
  ends_left = same_after (nat_lt k p.x) (nat_lt k (cut.left + p.x)) (tint (window sheet cut) c (record { x = p.x - (k + 1); y = p.y }) == 0) (tint sheet c (record { x = (cut.left + p.x) - (k + 1); y = cut.top + p.y }) == 0)
      (before_same cut.left p.x k (λ some. let b = inside.left some in omega (arith, b, near)))
      (λ e. let l = lt_is k p.x e in
      let moved : cut.left + (p.x - (k + 1)) ≡ (cut.left + p.x) - (k + 1) = omega (arith, l) in
      ap (λ (t : ℕ). t == 0) (tint-same sheet cut c (record { x = p.x - (k + 1); y = p.y }) is (record { x = (let i = inside.x in omega (arith, i)); y = inside.y })
      ∙ ap (λ (x : ℕ). tint sheet c (record { x = x; y = cut.top + p.y })) moved))

  ends_above : ends_at (window sheet cut) c p Above k ≡ ends_at sheet c (on_sheet cut p) Above k
  ends_above = same_after (nat_lt k p.y) (nat_lt k (cut.top + p.y)) (tint (window sheet cut) c (record { x = p.x; y = p.y - (k + 1) }) == 0) (tint sheet c (record { x = cut.left + p.x; y = (cut.top + p.y) - (k + 1) }) == 0)
      (before_same cut.top p.y k (λ some. let b = inside.top some in omega (arith, b, near)))
      (λ e. let l = lt_is k p.y e in
      let moved : cut.top + (p.y - (k + 1)) ≡ (cut.top + p.y) - (k + 1) = omega (arith, l) in
      ap (λ (t : ℕ). t == 0) (tint-same sheet cut c (record { x = p.x; y = p.y - (k + 1) }) is (record { x = inside.x; y = (let i = inside.y in omega (arith, i)) })
      ∙ ap (λ (y : ℕ). tint sheet c (record { x = cut.left + p.x; y = y })) moved))

  ends_right : ends_at (window sheet cut) c p Right k ≡ ends_at sheet c (on_sheet cut p) Right k
  ends_right =
      ap (λ (w : ℕ). nat_lt (p.x + (k + 1)) w && (tint (window sheet cut) c (record { x = p.x + (k + 1); y = p.y }) == 0)) (width-is sheet cut is)
      ∙ same_after (nat_lt (p.x + (k + 1)) cut.width) (nat_lt (cut.left + p.x + (k + 1)) (width sheet)) (tint (window sheet cut) c (record { x = p.x + (k + 1); y = p.y }) == 0) (tint sheet c (record { x = cut.left + p.x + (k + 1); y = cut.top + p.y }) == 0)
      (past_same cut.left cut.width (width sheet) (p.x + (k + 1)) is.across (λ some. let b = inside.right some in omega (arith, b, near)) ∙ ap (λ (x : ℕ). nat_lt x (width sheet)) (omega arith))
      (λ e. let l = lt_is (p.x + (k + 1)) cut.width e in
      let moved : cut.left + (p.x + (k + 1)) ≡ cut.left + p.x + (k + 1) = omega arith in
      ap (λ (t : ℕ). t == 0) (tint-same sheet cut c (record { x = p.x + (k + 1); y = p.y }) is (record { x = l; y = inside.y })
      ∙ ap (λ (x : ℕ). tint sheet c (record { x = x; y = cut.top + p.y })) moved))

  ends_below : ends_at (window sheet cut) c p Below k ≡ ends_at sheet c (on_sheet cut p) Below k
  ends_below =
      ap (λ (h : ℕ). nat_lt (p.y + (k + 1)) h && (tint (window sheet cut) c (record { x = p.x; y = p.y + (k + 1) }) == 0)) (height-is sheet cut is)
      ∙ same_after (nat_lt (p.y + (k + 1)) cut.height) (nat_lt (cut.top + p.y + (k + 1)) (height sheet)) (tint (window sheet cut) c (record { x = p.x; y = p.y + (k + 1) }) == 0) (tint sheet c (record { x = cut.left + p.x; y = cut.top + p.y + (k + 1) }) == 0)
      (past_same cut.top cut.height (height sheet) (p.y + (k + 1)) is.down (λ some. let b = inside.bottom some in omega (arith, b, near)) ∙ ap (λ (y : ℕ). nat_lt y (height sheet)) (omega arith))
      (λ e. let l = lt_is (p.y + (k + 1)) cut.height e in
      let moved : cut.top + (p.y + (k + 1)) ≡ cut.top + p.y + (k + 1) = omega arith in
      ap (λ (t : ℕ). t == 0) (tint-same sheet cut c (record { x = p.x; y = p.y + (k + 1) }) is (record { x = inside.x; y = l })
      ∙ ap (λ (y : ℕ). tint sheet c (record { x = cut.left + p.x; y = y })) moved))

  ends_same : (way : Way) → ends_at (window sheet cut) c p way k ≡ ends_at sheet c (on_sheet cut p) way k
  ends_same Left = ends_left
  ends_same Right = ends_right
  ends_same Above = ends_above
  ends_same Below = ends_below

run_before-same : (f g : ℕ → Bool) (n : ℕ) → ((k : ℕ) → k < n → f k ≡ g k) → run_before f n ≡ run_before g n
run_before-same f g zero each = refl
run_before-same f g (suc n) each = rw (run_before-same f g n (λ k l. each k (omega (arith, l))), each n (omega arith)) refl

-- ink is as thick as on the sheet
pub thickness_same : (sheet : PageParts) (cut : Cut) (wide c : ℕ) (p : At) → IsCut sheet cut → IsInside sheet cut (2 * followed wide sheet.resolution) p → thickness (window sheet cut) wide c p ≡ thickness sheet wide c (on_sheet cut p)
thickness_same sheet cut wide c p is inside = rw (along Left, along Right, along Above, along Below) refl
  where
    along : (way : Way) → run (window sheet cut) wide c p way ≡ run sheet wide c (on_sheet cut p) way
    along way = run_before-same (ends_at (window sheet cut) c p way) (ends_at sheet c (on_sheet cut p) way) (followed wide sheet.resolution) (λ k l. ends_same sheet cut c p (followed wide sheet.resolution) k is inside l way)
