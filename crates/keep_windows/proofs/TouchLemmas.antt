-- Whether a pixel touches one that passes a test, in a window as on the sheet.
use Rattle.std.proofs.Common.{◌≡◌, ℕ, ◌+◌, ◌<◌, ◌≤◌, Bool, true, false, ◌&&◌, nat_le, refl, sym, subst, ◌∙◌, arith}
use Rattle.std.proofs.lemmas.Bool.Decides.{nat_tests}
use Rattle.lists.specs.Words.{any_below, gap}
use Rattle.lists.proofs.AnyBelow.{any_below-from}
use Rattle.lists.proofs.Sums.{any_below-at}
use Rattle.page_model.specs.declared.parts.At.{At}
use Rattle.page_model.specs.declared.parts.PageParts.{PageParts}
use Rattle.page_model.specs.Page.{height, width}
use Rattle.sheet_geometry.specs.declared.cuts.Cut.{Cut}
use Rattle.sheet_geometry.specs.Windows.{IsCut, on_sheet}
use Rattle.sheet_geometry.specs.WindowLaw.{IsInside}
use Rattle.keep_windows.proofs.PlaceLemmas.{place_in, same_gap}

both : (a b : Bool) → (a && b) ≡ true → (a ≡ true) × (b ≡ true)
both true true e = (refl, refl)
both true false e = absurd (cc)
both false b e = absurd (cc)

both_true : (a b : Bool) → a ≡ true → b ≡ true → (a && b) ≡ true
both_true true b p q = q
both_true false b p q = p

le_is : (a b : ℕ) → nat_le a b ≡ true → a ≤ b
le_is a b e = grind (arith, nat_tests)

le_from : (a b : ℕ) → a ≤ b → nat_le a b ≡ true
le_from a b l = grind (arith, nat_tests)

-- tests that hold together are the same
pub same_test : (a b : Bool) → (a ≡ true → b ≡ true) → (b ≡ true → a ≡ true) → a ≡ b
same_test true b f g = sym (f refl)
same_test false true f g = g refl
same_test false false f g = refl

-- a pixel of row y passes in p's column or beside it
abbrev pub touching_in : ℕ → (ℕ → ℕ → Bool) → At → ℕ → Bool
touching_in wide test p y = any_below (λ j. nat_le (gap p.x j) 1 && test y j) wide

-- some pixel of a page of these sides passes, and is p or touches it
abbrev pub touching : ℕ → ℕ → (ℕ → ℕ → Bool) → At → Bool
touching wide tall test p = any_below (λ y. nat_le (gap p.y y) 1 && touching_in wide test p y) tall

record Touch (wide tall : ℕ) (test : ℕ → ℕ → Bool) (p : At) : Type 0 where
  x : ℕ
  y : ℕ
  in_row : x < wide
  on_page : y < tall
  near_x : gap p.x x ≤ 1
  near_y : gap p.y y ≤ 1
  passes : test y x ≡ true

touch_of : (wide tall : ℕ) (test : ℕ → ℕ → Bool) (p : At) → touching wide tall test p ≡ true → Touch wide tall test p
touch_of wide tall test p e =
    let row = any_below-at (λ y. nat_le (gap p.y y) 1 && touching_in wide test p y) tall e in
    let two = both (nat_le (gap p.y row.0) 1) (touching_in wide test p row.0) row.2 in
    let found = any_below-at (λ j. nat_le (gap p.x j) 1 && test row.0 j) wide two.1 in
    let parts = both (nat_le (gap p.x found.0) 1) (test row.0 found.0) found.2 in
    record { x = found.0; y = row.0; in_row = found.1; on_page = row.1; near_x = le_is (gap p.x found.0) 1 parts.0; near_y = le_is (gap p.y row.0) 1 two.0; passes = parts.1 }

touch_from : (wide tall : ℕ) (test : ℕ → ℕ → Bool) (p : At) → Touch wide tall test p → touching wide tall test p ≡ true
touch_from wide tall test p t =
    any_below-from (λ y. nat_le (gap p.y y) 1 && touching_in wide test p y) tall t.y t.on_page
    (both_true (nat_le (gap p.y t.y) 1) (touching_in wide test p t.y) (le_from (gap p.y t.y) 1 t.near_y)
    (any_below-from (λ j. nat_le (gap p.x j) 1 && test t.y j) wide t.x t.in_row
    (both_true (nat_le (gap p.x t.x) 1) (test t.y t.x) (le_from (gap p.x t.x) 1 t.near_x) t.passes)))

-- a pixel with its neighbours in the window touches what it touches on the sheet
pub touching_same : (sheet : PageParts) (cut : Cut) (p : At) (small on : ℕ → ℕ → Bool) → IsCut sheet cut → IsInside sheet cut 2 p → ((j k : ℕ) → j < cut.width → k < cut.height → small k j ≡ on (cut.top + k) (cut.left + j)) → touching cut.width cut.height small p ≡ touching (width sheet) (height sheet) on (on_sheet cut p)
touching_same sheet cut p small on is inside same = same_test (touching cut.width cut.height small p) (touching (width sheet) (height sheet) on (on_sheet cut p))
    (λ e. let t = touch_of cut.width cut.height small p e in
    touch_from (width sheet) (height sheet) on (on_sheet cut p) (record {
      x = cut.left + t.x;
      y = cut.top + t.y;
      in_row = omega (arith, is.across, t.in_row);
      on_page = omega (arith, is.down, t.on_page);
      near_x = omega (arith, t.near_x, same_gap cut.left p.x t.x);
      near_y = omega (arith, t.near_y, same_gap cut.top p.y t.y);
      passes = sym (same t.x t.y t.in_row t.on_page) ∙ t.passes;
    }))
    (λ e. let t = touch_of (width sheet) (height sheet) on (on_sheet cut p) e in
    let column = place_in cut.left cut.width (width sheet) p.x t.x 1 is.across (λ l. omega (arith, inside.left l)) (λ l. omega (arith, inside.right l)) inside.x t.in_row t.near_x in
    let row = place_in cut.top cut.height (height sheet) p.y t.y 1 is.down (λ l. omega (arith, inside.top l)) (λ l. omega (arith, inside.bottom l)) inside.y t.on_page t.near_y in
    let there : on (cut.top + row.0) (cut.left + column.0) ≡ true = subst (λ (k : ℕ). on k (cut.left + column.0) ≡ true) row.1 (subst (λ (j : ℕ). on t.y j ≡ true) column.1 t.passes) in
    let near_x : gap p.x column.0 ≤ 1 = omega (arith, subst (λ (j : ℕ). gap (cut.left + p.x) j ≤ 1) column.1 t.near_x, same_gap cut.left p.x column.0) in
    let near_y : gap p.y row.0 ≤ 1 = omega (arith, subst (λ (k : ℕ). gap (cut.top + p.y) k ≤ 1) row.1 t.near_y, same_gap cut.top p.y row.0) in
    touch_from cut.width cut.height small p (record {
      x = column.0;
      y = row.0;
      in_row = column.2;
      on_page = row.2;
      near_x = near_x;
      near_y = near_y;
      passes = same column.0 row.0 column.2 row.2 ∙ there;
    }))
