-- Rows of a sheet that are drawn back as rows of a window.
use Rattle.std.proofs.Common.{◌≡◌, ℕ, ◌+◌, ◌-◌, ◌<◌, ◌≤◌, Bool, true, ◌&&◌, nat_le, sym, subst, ap, ◌∙◌, inl, inr, arith}
use Rattle.lists.specs.Words.{gap, square}
use Rattle.draw_back.specs.Drawn.{Scene, IsDrawn, distance2, drawn, is_source}
use Rattle.draw_back.specs.Laws.{IsWindow, HasHalo}
use Rattle.draw_back.proofs.DrawnLemmas.{drawn_is, drawn_only}
use Rattle.draw_back.proofs.SourceLemmas.{source_rows}

-- rows lie as far apart in the window as on the sheet
same_gap : (first y k : ℕ) → gap (first + y) (first + k) ≡ gap y k
same_gap first y k = omega arith

-- a pixel of the window is a source there where it is one on the sheet
same_source : (window sheet : Scene) (first x y j k : ℕ) → IsWindow window sheet first → j < window.wide → k < window.tall → is_source window x y j k ≡ is_source sheet x (first + y) j (first + k)
same_source window sheet first x y j k is in_row on_page =
    ap (λ (f : Bool). f && nat_le (distance2 x y j k) window.limit) (is.free j k in_row on_page)
    ∙ ap (λ (l : ℕ). sheet.is_free j (first + k) && nat_le (distance2 x y j k) l) is.limit
    ∙ ap (λ (g : ℕ). sheet.is_free j (first + k) && nat_le (square (gap x j) + square g) sheet.limit) (sym (same_gap first y k))

-- a source on the sheet is a row of the window
in_window : (window sheet : Scene) (first radius x y j k : ℕ) → IsWindow window sheet first → window.limit < square (radius + 1) → HasHalo window sheet first radius y → k < sheet.tall → is_source sheet x (first + y) j k ≡ true → (n : ℕ) × (k ≡ first + n) × (n < window.tall)
in_window window sheet first radius x y j k is beyond halo on_page source =
    let near : gap (first + y) k ≤ radius = source_rows sheet x (first + y) j k radius (subst (λ (n : ℕ). n < square (radius + 1)) is.limit beyond) source in
    let low : first ≤ k = elim halo.above [ inl e ↦ omega arith | inr l ↦ omega arith ] in
    let high : k < first + window.tall = elim halo.below [ inl e ↦ omega arith | inr l ↦ omega arith ] in
    (k - first, omega arith, omega arith)

pub window_row : (window sheet : Scene) (first radius x y : ℕ) → IsWindow window sheet first → window.limit < square (radius + 1) → x < window.wide → HasHalo window sheet first radius y → drawn window x y ≡ drawn sheet x (first + y)
window_row window sheet first radius x y is beyond in_row halo =
    let the : IsDrawn window x y (drawn window x y) = drawn_is window x y in
    drawn_only sheet x (first + y) (drawn window x y) (record {
      own = subst (λ (t : ℕ). drawn window x y ≤ t) (is.tint x y in_row halo.row) the.own;
      each = λ j k in_sheet on_sheet source. each_source j k in_sheet on_sheet source;
      greatest = λ b own all. the.greatest b (subst (λ (t : ℕ). b ≤ t) (sym (is.tint x y in_row halo.row)) own)
          (λ j k inside below source. subst (λ (t : ℕ). b ≤ t) (sym (is.tint j k inside below))
          (all j (first + k) (omega (arith, is.wide)) (omega (arith, is.inside)) (sym (same_source window sheet first x y j k is inside below) ∙ source)));
    })
  where
    each_source : (j k : ℕ) → j < sheet.wide → k < sheet.tall → is_source sheet x (first + y) j k ≡ true → drawn window x y ≤ sheet.tint_at j k
    each_source j k in_sheet on_sheet source =
        let found = in_window window sheet first radius x y j k is beyond halo on_sheet source in
        let inside : j < window.wide = omega (arith, is.wide) in
        let there : is_source sheet x (first + y) j (first + found.0) ≡ true = subst (λ (n : ℕ). is_source sheet x (first + y) j n ≡ true) found.1 source in
        let low : drawn window x y ≤ window.tint_at j found.0 = (drawn_is window x y).each j found.0 inside found.2 (same_source window sheet first x y j found.0 is inside found.2 ∙ there) in
        subst (λ (n : ℕ). drawn window x y ≤ sheet.tint_at j n) (sym found.1) (subst (λ (t : ℕ). drawn window x y ≤ t) (is.tint j found.0 inside found.2) low)
