-- A pixel of a window is drawn back as on the sheet, if the cover and the tints near it are the same.
use Rattle.std.proofs.Common.{◌≡◌, ℕ, ◌+◌, ◌*◌, ◌<◌, ◌≤◌, Bool, true, ◌&&◌, nat_le, sym, subst, ap, ◌∙◌, arith}
use Rattle.lists.specs.Words.{gap, square}
use Rattle.page_model.specs.declared.parts.At.{At}
use Rattle.page_model.specs.declared.parts.PageParts.{PageParts}
use Rattle.page_model.specs.Page.{height, width}
use Rattle.sheet_geometry.specs.declared.cuts.Cut.{Cut}
use Rattle.sheet_geometry.specs.Windows.{IsCut}
use Rattle.sheet_geometry.specs.WindowLaw.{IsInside}
use Rattle.draw_back.specs.Drawn.{Scene, IsDrawn, distance2, drawn, is_source}
use Rattle.draw_back.proofs.DrawnLemmas.{drawn_is, drawn_only}
use Rattle.draw_back.proofs.SourceLemmas.{source_columns, source_rows}
use Rattle.keep_windows.proofs.PlaceLemmas.{place_in, same_gap}

-- what the rule sees of a window and of its sheet: the same tints, and the same cover at most the radius from p;
-- nothing farther is near
pub record AreAlike (sheet : PageParts) (cut : Cut) (small on : Scene) (radius : ℕ) (p : At) : Type 0 where
  pub wide : small.wide ≡ cut.width
  pub tall : small.tall ≡ cut.height
  pub sheet_wide : on.wide ≡ width sheet
  pub sheet_tall : on.tall ≡ height sheet
  pub limit : small.limit ≡ on.limit
  pub beyond : on.limit < square (radius + 1)
  pub free : (j k : ℕ) → gap p.x j ≤ radius → gap p.y k ≤ radius → j < cut.width → k < cut.height → small.is_free j k ≡ on.is_free (cut.left + j) (cut.top + k)
  pub tint : (j k : ℕ) → j < cut.width → k < cut.height → small.tint_at j k ≡ on.tint_at (cut.left + j) (cut.top + k)

-- a pixel of the window is a source there where it is one on the sheet
source_same : (sheet : PageParts) (cut : Cut) (small on : Scene) (radius : ℕ) (p : At) (j k : ℕ) → AreAlike sheet cut small on radius p → gap p.x j ≤ radius → gap p.y k ≤ radius → j < cut.width → k < cut.height → is_source small p.x p.y j k ≡ is_source on (cut.left + p.x) (cut.top + p.y) (cut.left + j) (cut.top + k)
source_same sheet cut small on radius p j k alike near_x near_y in_row on_page =
    ap (λ (b : Bool). b && nat_le (distance2 p.x p.y j k) small.limit) (alike.free j k near_x near_y in_row on_page)
    ∙ ap (λ (n : ℕ). on.is_free (cut.left + j) (cut.top + k) && nat_le (distance2 p.x p.y j k) n) alike.limit
    ∙ ap (λ (g : ℕ). on.is_free (cut.left + j) (cut.top + k) && nat_le (square g + square (gap p.y k)) on.limit) (sym (same_gap cut.left p.x j))
    ∙ ap (λ (g : ℕ). on.is_free (cut.left + j) (cut.top + k) && nat_le (square (gap (cut.left + p.x) (cut.left + j)) + square g) on.limit) (sym (same_gap cut.top p.y k))

-- a pixel that has the radius around it in the window is drawn back as on the sheet
pub drawn_near : (sheet : PageParts) (cut : Cut) (small on : Scene) (radius : ℕ) (p : At) → IsCut sheet cut → AreAlike sheet cut small on radius p → IsInside sheet cut (2 * radius) p → drawn small p.x p.y ≡ drawn on (cut.left + p.x) (cut.top + p.y)
drawn_near sheet cut small on radius p is alike inside = drawn_only on (cut.left + p.x) (cut.top + p.y) (drawn small p.x p.y) (record {
  own = subst (λ (t : ℕ). drawn small p.x p.y ≤ t) (alike.tint p.x p.y inside.x inside.y) the.own;
  each = each_source;
  greatest = λ b own all. the.greatest b (subst (λ (t : ℕ). b ≤ t) (sym (alike.tint p.x p.y inside.x inside.y)) own)
      (λ j k in_window below source.
      let in_row : j < cut.width = omega (arith, in_window, alike.wide) in
      let on_page : k < cut.height = omega (arith, below, alike.tall) in
      let near_x = source_columns small p.x p.y j k radius beyond source in
      let near_y = source_rows small p.x p.y j k radius beyond source in
      subst (λ (t : ℕ). b ≤ t) (sym (alike.tint j k in_row on_page))
      (all (cut.left + j) (cut.top + k) (omega (arith, is.across, in_row, alike.sheet_wide)) (omega (arith, is.down, on_page, alike.sheet_tall))
      (sym (source_same sheet cut small on radius p j k alike near_x near_y in_row on_page) ∙ source)));
})
  where
    the : IsDrawn small p.x p.y (drawn small p.x p.y)
    the = drawn_is small p.x p.y

    beyond : small.limit < square (radius + 1)
    beyond = subst (λ (n : ℕ). n < square (radius + 1)) (sym alike.limit) alike.beyond

    each_source : (j k : ℕ) → j < on.wide → k < on.tall → is_source on (cut.left + p.x) (cut.top + p.y) j k ≡ true → drawn small p.x p.y ≤ on.tint_at j k
    each_source j k in_row on_page source =
        let near_x = source_columns on (cut.left + p.x) (cut.top + p.y) j k radius alike.beyond source in
        let near_y = source_rows on (cut.left + p.x) (cut.top + p.y) j k radius alike.beyond source in
        let column = place_in cut.left cut.width (width sheet) p.x j radius is.across (λ l. omega (arith, inside.left l)) (λ l. omega (arith, inside.right l)) inside.x (omega (arith, in_row, alike.sheet_wide)) near_x in
        let row = place_in cut.top cut.height (height sheet) p.y k radius is.down (λ l. omega (arith, inside.top l)) (λ l. omega (arith, inside.bottom l)) inside.y (omega (arith, on_page, alike.sheet_tall)) near_y in
        let close_x : gap p.x column.0 ≤ radius = omega (arith, subst (λ (n : ℕ). gap (cut.left + p.x) n ≤ radius) column.1 near_x, same_gap cut.left p.x column.0) in
        let close_y : gap p.y row.0 ≤ radius = omega (arith, subst (λ (n : ℕ). gap (cut.top + p.y) n ≤ radius) row.1 near_y, same_gap cut.top p.y row.0) in
        let there : is_source on (cut.left + p.x) (cut.top + p.y) (cut.left + column.0) (cut.top + row.0) ≡ true = subst (λ (n : ℕ). is_source on (cut.left + p.x) (cut.top + p.y) (cut.left + column.0) n ≡ true) row.1 (subst (λ (n : ℕ). is_source on (cut.left + p.x) (cut.top + p.y) n k ≡ true) column.1 source) in
        let low = (drawn_is small p.x p.y).each column.0 row.0 (omega (arith, column.2, alike.wide)) (omega (arith, row.2, alike.tall)) (source_same sheet cut small on radius p column.0 row.0 alike close_x close_y column.2 row.2 ∙ there) in
        subst (λ (n : ℕ). drawn small p.x p.y ≤ on.tint_at j n) (sym row.1)
        (subst (λ (n : ℕ). drawn small p.x p.y ≤ on.tint_at n (cut.top + row.0)) (sym column.1)
        (subst (λ (t : ℕ). drawn small p.x p.y ≤ t) (alike.tint column.0 row.0 column.2 row.2) low))
