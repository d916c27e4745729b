-- What the two marks of a sample tell of its edges.
use Rattle.std.proofs.Common.{◌≡◌, ℕ, ◌+◌, ◌*◌, ◌-◌, ◌/◌, ◌%◌, ◌<◌, ◌≤◌, Bool, true, false, ◌&&◌, nat_le, nat_lt, inl, inr, refl, sym, ◌∙◌, ap, arith, if◌then◌else◌, bit_and}
use Rattle.std.specs.Prelude.{◌==◌}
use Rattle.std.proofs.lemmas.Bool.{cases_eq, eq-eqb, le-leb}
use Rattle.std.proofs.lemmas.Bool.Decides.{nat_tests}
use Rattle.page_model.specs.declared.parts.PageParts.{PageParts}
use Rattle.page_model.specs.Columns.{edge_decides}
use Rattle.page_model.specs.Deciding.{decides, lower_mark, mark, right_mark}
use Rattle.page_model.specs.Edges.{lower_edge, right_edge}
use Rattle.page_model.specs.Page.{height, width}

right_bit : (r l : Bool) → (bit_and ((if r then 1 else 0) + (if l then 2 else 0)) 1 == 1) ≡ r
right_bit true true = refl
right_bit true false = refl
right_bit false true = refl
right_bit false false = refl

lower_bit : (r l : Bool) → (bit_and ((if r then 1 else 0) + (if l then 2 else 0)) 2 == 2) ≡ l
lower_bit true true = refl
lower_bit true false = refl
lower_bit false true = refl
lower_bit false false = refl

across_test : (x w : ℕ) → nat_le (2 * x + 1 + 2) (2 * w) ≡ nat_lt (x + 1) w
across_test x w = grind (arith, nat_tests)

all_four : (a b c d : Bool) → a ≡ true → c ≡ true → (a && (b && (c && d))) ≡ (b && d)
all_four a b c d ea ec = rw (ea, ec) refl

all_three : (a b c d : Bool) → a ≡ true → b ≡ true → (a && (b && (c && d))) ≡ (c && d)
all_three a b c d ea eb = rw (ea, eb) refl

pub right_mark-is : (page : PageParts) (x y : ℕ) → y < height page → edge_decides page (2 * x + 1) (2 * y) ≡ right_mark page y x
unfolding edge_decides
right_mark-is page x y l =
    all_four ((2 * x + 1 + 2 * y) % 2 == 1) (nat_le (2 * x + 1 + 2) (2 * width page)) (nat_le (2 * y + 2) (2 * height page)) (decides page (right_edge x y)) (eq-eqb _ _ (omega arith)) (le-leb _ _ (omega (arith, l)))
    ∙ ap (λ (b : Bool). b && decides page (right_edge x y)) (across_test x (width page))

pub lower_mark-is : (page : PageParts) (x y : ℕ) → x < width page → edge_decides page (2 * x) (2 * y + 1) ≡ lower_mark page y x
unfolding edge_decides
lower_mark-is page x y l =
    all_three ((2 * x + (2 * y + 1)) % 2 == 1) (nat_le (2 * x + 2) (2 * width page)) (nat_le (2 * y + 1 + 2) (2 * height page)) (decides page (lower_edge x y)) (eq-eqb _ _ (omega arith)) (le-leb _ _ (omega (arith, l)))
    ∙ ap (λ (b : Bool). b && decides page (lower_edge x y)) (across_test y (height page))

-- what the marks of a sample tell of its edges
pub tells : (page : PageParts) (x2 y2 : ℕ) → (x2 + y2) % 2 ≡ 1 → x2 + 2 ≤ 2 * width page → y2 / 2 < height page → (bit_and (mark page (y2 / 2) (x2 / 2)) (2 - x2 % 2) == 2 - x2 % 2) ≡ edge_decides page x2 y2
tells page x2 y2 odd across down = elim (cases_eq (x2 % 2) 1) [
  | inl e ↦ (let ex : 2 * (x2 / 2) + 1 ≡ x2 = omega (arith, e) in
      let ey : 2 * (y2 / 2) ≡ y2 = omega (arith, e, odd) in
      let bit : 2 - x2 % 2 ≡ 1 = omega (arith, e) in
      rw bit (right_bit (right_mark page (y2 / 2) (x2 / 2)) (lower_mark page (y2 / 2) (x2 / 2)) ∙ sym (right_mark-is page (x2 / 2) (y2 / 2) down) ∙ ap (λ (n : ℕ). edge_decides page n (2 * (y2 / 2))) ex ∙ ap (edge_decides page x2) ey))
  | inr ne ↦ (let ex : 2 * (x2 / 2) ≡ x2 = omega (arith, ne) in
      let ey : 2 * (y2 / 2) + 1 ≡ y2 = omega (arith, ne, odd) in
      let bit : 2 - x2 % 2 ≡ 2 = omega (arith, ne) in
      rw bit (lower_bit (right_mark page (y2 / 2) (x2 / 2)) (lower_mark page (y2 / 2) (x2 / 2)) ∙ sym (lower_mark-is page (x2 / 2) (y2 / 2) (omega (arith, across))) ∙ ap (λ (n : ℕ). edge_decides page n (2 * (y2 / 2) + 1)) ex ∙ ap (edge_decides page x2) ey))
]
