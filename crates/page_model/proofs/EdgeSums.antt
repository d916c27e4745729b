-- The deciding edges of a page are those at its samples: to the right of each and below it.
use Rattle.std.proofs.Common.{◌≡◌, ℕ, ◌+◌, ◌*◌, ◌-◌, ◌%◌, ◌<◌, ◌≤◌, Bool, true, ◌&&◌, nat_le, refl, sym, ◌∙◌, ap, arith}
use Rattle.std.specs.Prelude.{◌==◌}
use Rattle.std.proofs.lemmas.Bool.{and_parts, eqb-true, leb-true, le-leb, false_from_ne_true}
use Rattle.std.proofs.lemmas.Nat.{div-mul-add, mod-mul-add}
use Rattle.page_model.specs.declared.parts.EdgeAt.{EdgeAt}
use Rattle.page_model.specs.declared.parts.PageParts.{PageParts}
use Rattle.page_model.specs.Columns.{edge_decides}
use Rattle.page_model.specs.Counts.{deciding_edges}
use Rattle.page_model.specs.Decider.{grid_point, grid_points, is_candidate}
use Rattle.page_model.specs.Deciding.{decides, lower_mark, right_mark}
use Rattle.page_model.specs.Page.{height, width}
use Rattle.lists.specs.Words.{sum_below}
use Rattle.page_model.proofs.MarkLemmas.{lower_mark-is, right_mark-is}
use Rattle.page_model.proofs.NumberSums.{counted, one_if, sum_none, sum_one_more, sum_pairs, sum_plus, sum_rows, sum_same, sum_swap}

-- 1 where an edge of the page decides at a point of the doubled grid
unfoldable edge_one : PageParts → ℕ → ℕ → ℕ
edge_one page x2 y2 = one_if (edge_decides page x2 y2)

not_edge : (page : PageParts) (x2 y2 : ℕ) → ((x2 + y2) % 2 ≡ 1 → x2 + 2 ≤ 2 * width page → y2 + 2 ≤ 2 * height page → ⊥) → edge_one page x2 y2 ≡ 0
unfolding edge_one edge_decides
not_edge page x2 y2 h = ap one_if (false_from_ne_true (((x2 + y2) % 2 == 1) && (nat_le (x2 + 2) (2 * width page) && (nat_le (y2 + 2) (2 * height page) && decides page (record { x2 = x2; y2 = y2 })))) (λ p.
    let one = and_parts ((x2 + y2) % 2 == 1) (nat_le (x2 + 2) (2 * width page) && (nat_le (y2 + 2) (2 * height page) && decides page (record { x2 = x2; y2 = y2 }))) p in
    let two = and_parts (nat_le (x2 + 2) (2 * width page)) (nat_le (y2 + 2) (2 * height page) && decides page (record { x2 = x2; y2 = y2 })) one.1 in
    let three = and_parts (nat_le (y2 + 2) (2 * height page)) (decides page (record { x2 = x2; y2 = y2 })) two.1 in
    h (eqb-true _ _ one.0) (leb-true _ _ two.0) (leb-true _ _ three.0)))

all_true : (a b c d : Bool) → b ≡ true → c ≡ true → (a && d) ≡ (a && (b && (c && d)))
all_true a b c d eb ec = rw (eb, ec) refl

candidate_one : (page : PageParts) (x2 y2 : ℕ) → x2 + 2 ≤ 2 * width page → y2 + 2 ≤ 2 * height page → one_if (is_candidate page (record { x2 = x2; y2 = y2 })) ≡ edge_one page x2 y2
unfolding edge_one edge_decides
candidate_one page x2 y2 lx ly = ap one_if (all_true ((x2 + y2) % 2 == 1) (nat_le (x2 + 2) (2 * width page)) (nat_le (y2 + 2) (2 * height page)) (decides page (record { x2 = x2; y2 = y2 })) (le-leb _ _ lx) (le-leb _ _ ly))

-- the candidates of the grid, column by column
by_columns : (page : PageParts) → 1 ≤ width page → 1 ≤ height page → deciding_edges page ≡ sum_below (λ a. sum_below (edge_one page a) (2 * height page - 1)) (2 * width page - 1)
by_columns page sw sh =
    let r = 2 * height page - 1 in
    counted (λ k. is_candidate page (grid_point page k)) (grid_points page)
    ∙ sum_rows (λ k. one_if (is_candidate page (grid_point page k))) r (2 * width page - 1)
    ∙ sum_same (λ a. sum_below (λ b. one_if (is_candidate page (grid_point page (a * r + b)))) r) (λ a. sum_below (edge_one page a) r) (2 * width page - 1) (λ a la. sum_same (λ b. one_if (is_candidate page (grid_point page (a * r + b)))) (edge_one page a) r (λ b lb. at a b la lb)) where
      at : (a b : ℕ) → a < 2 * width page - 1 → b < 2 * height page - 1 → one_if (is_candidate page (grid_point page (a * (2 * height page - 1) + b))) ≡ edge_one page a b
      at a b la lb = ap (λ (e : EdgeAt). one_if (is_candidate page e)) (ap (λ (n : ℕ). point n ((a * (2 * height page - 1) + b) % (2 * height page - 1))) (div-mul-add a (2 * height page - 1) b lb) ∙ ap (point a) (mod-mul-add a (2 * height page - 1) b lb)) ∙ candidate_one page a b (omega (arith, la)) (omega (arith, lb)) where
        point : ℕ → ℕ → EdgeAt
        point m n = record { x2 = m; y2 = n }

-- the edges that decide to the right of a sample and below it
unfoldable pub edges_at : PageParts → ℕ → ℕ → ℕ
edges_at page x y = one_if (right_mark page y x) + one_if (lower_mark page y x)

four : (page : PageParts) (x y : ℕ) → x < width page → y < height page → (edge_one page (2 * x) (2 * y) + edge_one page (2 * x) (2 * y + 1)) + (edge_one page (2 * x + 1) (2 * y) + edge_one page (2 * x + 1) (2 * y + 1)) ≡ edges_at page x y
unfolding edge_one edges_at
four page x y lx ly =
    let even : one_if (edge_decides page (2 * x) (2 * y)) ≡ 0 = not_edge page (2 * x) (2 * y) (λ odd _ _. omega (arith, odd)) in
    let odd : one_if (edge_decides page (2 * x + 1) (2 * y + 1)) ≡ 0 = not_edge page (2 * x + 1) (2 * y + 1) (λ odd _ _. omega (arith, odd)) in
    let right : one_if (edge_decides page (2 * x + 1) (2 * y)) ≡ one_if (right_mark page y x) = ap one_if (right_mark-is page x y ly) in
    let lower : one_if (edge_decides page (2 * x) (2 * y + 1)) ≡ one_if (lower_mark page y x) = ap one_if (lower_mark-is page x y lx) in
    omega (arith, even, odd, right, lower)

column_pairs : (page : PageParts) (a : ℕ) → 1 ≤ height page → sum_below (edge_one page a) (2 * height page - 1) ≡ sum_below (λ y. edge_one page a (2 * y) + edge_one page a (2 * y + 1)) (height page)
column_pairs page a sh = sym (sum_one_more (edge_one page a) (2 * height page) (omega (arith, sh)) (not_edge page a (2 * height page - 1) (λ _ _ l. omega (arith, l, sh)))) ∙ sum_pairs (edge_one page a) (height page)

last_column : (page : PageParts) → 1 ≤ width page → sum_below (edge_one page (2 * width page - 1)) (2 * height page - 1) ≡ 0
last_column page sw = sum_same (edge_one page (2 * width page - 1)) (λ k. 0) (2 * height page - 1) (λ k _. not_edge page (2 * width page - 1) k (λ _ l _. omega (arith, l, sw))) ∙ sum_none (2 * height page - 1)

grid_sum : (page : PageParts) → 1 ≤ width page → 1 ≤ height page → sum_below (λ a. sum_below (edge_one page a) (2 * height page - 1)) (2 * width page - 1) ≡ sum_below (λ x. sum_below (edges_at page x) (height page)) (width page)
grid_sum page sw sh =
    let column = λ (a : ℕ). sum_below (edge_one page a) (2 * height page - 1) in
    sym (sum_one_more column (2 * width page) (omega (arith, sw)) (last_column page sw))
    ∙ sum_pairs column (width page)
    ∙ sum_same (λ x. column (2 * x) + column (2 * x + 1)) (λ x. sum_below (edges_at page x) (height page)) (width page) (λ x lx. pair x lx) where
      pair : (x : ℕ) → x < width page → sum_below (edge_one page (2 * x)) (2 * height page - 1) + sum_below (edge_one page (2 * x + 1)) (2 * height page - 1) ≡ sum_below (edges_at page x) (height page)
      pair x lx =
          let even = λ (y : ℕ). edge_one page (2 * x) (2 * y) + edge_one page (2 * x) (2 * y + 1) in
          let odd = λ (y : ℕ). edge_one page (2 * x + 1) (2 * y) + edge_one page (2 * x + 1) (2 * y + 1) in
          ap (λ (s : ℕ). s + sum_below (edge_one page (2 * x + 1)) (2 * height page - 1)) (column_pairs page (2 * x) sh)
          ∙ ap (λ (s : ℕ). sum_below even (height page) + s) (column_pairs page (2 * x + 1) sh)
          ∙ sym (sum_plus even odd (height page))
          ∙ sum_same (λ y. even y + odd y) (edges_at page x) (height page) (λ y ly. four page x y lx ly)

-- row by row
pub edges_by_rows : (page : PageParts) → 1 ≤ width page → 1 ≤ height page → deciding_edges page ≡ sum_below (λ y. sum_below (λ x. edges_at page x y) (width page)) (height page)
edges_by_rows page sw sh = by_columns page sw sh ∙ grid_sum page sw sh ∙ sum_swap (edges_at page) (width page) (height page)
