-- The decider of a sample is the nearest among the nearest edges of the columns.
use Rattle.std.proofs.Common.{◌≡◌, ℕ, ◌+◌, ◌*◌, ◌-◌, ◌%◌, ◌<◌, ◌≤◌, Bool, true, nat_le, ◌&&◌, inl, inr, sym, ◌∙◌, ap, subst, arith, Option, Some, None}
use Rattle.std.specs.Prelude.{◌==◌}
use Rattle.std.specs.Option.{MatchOption, option_map}
use Rattle.std.proofs.lemmas.Bool.{and_parts, and_from, eqb-true, eq-eqb, leb-true, le-leb, false≢true}
use Rattle.page_model.specs.declared.parts.At.{At}
use Rattle.page_model.specs.declared.parts.EdgeAt.{EdgeAt}
use Rattle.page_model.specs.declared.parts.PageParts.{PageParts}
use Rattle.page_model.specs.Columns.{edge_decides, column_edge, column_decider, answer_edge, answer_or_0, is_answer}
use Rattle.page_model.specs.Decider.{grid_rows, IsDecider, AtMost}
use Rattle.page_model.specs.Deciding.{decides}
use Rattle.page_model.specs.Edges.{IsEdge, d2}
use Rattle.page_model.specs.Page.{width, height}
use Rattle.lists.specs.Words.{gap, first_least}
use Rattle.lists.proofs.FirstLeast.{Answers, first_least-is, first_least-from}
use Rattle.page_model.proofs.ReachLemmas.{root_at_most, root_less}

abbrev edge : ℕ → ℕ → EdgeAt
edge x2 y2 = record { x2 = x2; y2 = y2 }

pub record IsDecidingEdge (page : PageParts) (e : EdgeAt) : Type 0 where
  pub edge : IsEdge page e
  pub deciding : decides page e ≡ true

edge_decides-to : (page : PageParts) (x2 y2 : ℕ) → edge_decides page x2 y2 ≡ true → IsDecidingEdge page (edge x2 y2)
unfolding edge_decides
edge_decides-to page x2 y2 p =
    let one = and_parts ((x2 + y2) % 2 == 1) (nat_le (x2 + 2) (2 * width page) && (nat_le (y2 + 2) (2 * height page) && decides page (edge x2 y2))) p in
    let two = and_parts (nat_le (x2 + 2) (2 * width page)) (nat_le (y2 + 2) (2 * height page) && decides page (edge x2 y2)) one.1 in
    let three = and_parts (nat_le (y2 + 2) (2 * height page)) (decides page (edge x2 y2)) two.1 in
    record { edge = record { one_odd = eqb-true _ _ one.0; across_page = leb-true _ _ two.0; down_page = leb-true _ _ three.0 }; deciding = three.1 }

edge_decides-from : (page : PageParts) (e : EdgeAt) → IsEdge page e → decides page e ≡ true → edge_decides page e.x2 e.y2 ≡ true
unfolding edge_decides
edge_decides-from page e is d = and_from _ _ (eq-eqb _ _ is.one_odd) (and_from _ _ (le-leb _ _ is.across_page) (and_from _ _ (le-leb _ _ is.down_page) d))

abbrev pub passes : PageParts → ℕ → ℕ → ℕ → ℕ → Bool
passes page reach x2 y y2 = edge_decides page x2 y2 && nat_le (gap y2 (2 * y)) reach

abbrev pub rank : ℕ → ℕ → ℕ
rank y y2 = gap y2 (2 * y)

-- a column's answer is a deciding edge
pub column_edge-is : (page : PageParts) (reach x2 y : ℕ) → Answers (rank y) (passes page reach x2 y) (grid_rows page) (column_edge page reach x2 y)
unfolding column_edge
column_edge-is page reach x2 y = first_least-is (rank y) (passes page reach x2 y) (grid_rows page)

answers : (page : PageParts) (reach x2 y : ℕ) (o : Option ℕ) → Answers (rank y) (passes page reach x2 y) (grid_rows page) o → is_answer o ≡ true → IsDecidingEdge page (edge x2 (answer_or_0 o))
answers page reach x2 y None h some = absurd (false≢true some)
answers page reach x2 y (Some y2) h some = edge_decides-to page x2 y2 (and_parts (edge_decides page x2 y2) (nat_le (gap y2 (2 * y)) reach) h.passes).0

pub answer_decides : (page : PageParts) (reach x2 y : ℕ) → is_answer (column_edge page reach x2 y) ≡ true → IsDecidingEdge page (answer_edge page reach y x2)
answer_decides page reach x2 y some = answers page reach x2 y _ (column_edge-is page reach x2 y) some

-- in its own column the decider is the nearest
nearest_in_column : (p : At) (e : EdgeAt) (y2 : ℕ) → AtMost p e (edge e.x2 y2) → (gap e.y2 (2 * p.y) ≤ gap y2 (2 * p.y)) × (y2 < e.y2 → gap e.y2 (2 * p.y) < gap y2 (2 * p.y))
nearest_in_column p e y2 (inl less) =
    let closer = root_less (gap e.y2 (2 * p.y)) (gap y2 (2 * p.y)) (omega (arith, less)) in
    (omega (arith, closer), λ _. closer)
nearest_in_column p e y2 (inr (same, inl left)) = absurd (omega (arith, left))
nearest_in_column p e y2 (inr (same, inr up)) = (root_at_most (gap e.y2 (2 * p.y)) (gap y2 (2 * p.y)) (omega (arith, same)), λ above. absurd (omega (arith, up.1, above)))

pub decider_in_column : (page : PageParts) (p : At) (reach : ℕ) (e : EdgeAt) → IsDecider page p e → gap e.y2 (2 * p.y) ≤ reach → column_edge page reach e.x2 p.y ≡ Some e.y2
unfolding column_edge
decider_in_column page p reach e is near = first_least-from (rank p.y) (passes page reach e.x2 p.y) (grid_rows page) e.y2 (record {
  below = omega (arith, is.edge.down_page);
  passes = and_from _ _ (edge_decides-from page e is.edge is.deciding) (le-leb _ _ near);
  least = λ j l t. (leads j t).0;
  first = λ j l t. (leads j t).1 l;
}) where
  leads : (j : ℕ) → passes page reach e.x2 p.y j ≡ true → (gap e.y2 (2 * p.y) ≤ gap j (2 * p.y)) × (j < e.y2 → gap e.y2 (2 * p.y) < gap j (2 * p.y))
  leads j t =
      let f = edge_decides-to page e.x2 j (and_parts (edge_decides page e.x2 j) (nat_le (gap j (2 * p.y)) reach) t).0 in
      nearest_in_column p e j (is.least (edge e.x2 j) f.edge f.deciding)

-- of two edges in different columns
leads_columns : (p : At) (e f : EdgeAt) → AtMost p e f → (d2 p e ≤ d2 p f) × (f.x2 < e.x2 → d2 p e < d2 p f)
leads_columns p e f (inl less) = (omega (arith, less), λ _. less)
leads_columns p e f (inr (same, inl left)) = (omega (arith, same), λ right. absurd (omega (arith, left, right)))
leads_columns p e f (inr (same, inr up)) = (omega (arith, same), λ right. absurd (omega (arith, up.0, right)))

edge_of : (page : PageParts) (p : At) (reach : ℕ) (e : EdgeAt) → column_edge page reach e.x2 p.y ≡ Some e.y2 → answer_edge page reach p.y e.x2 ≡ e
edge_of page p reach e at = ap (λ (o : Option ℕ). edge e.x2 (answer_or_0 o)) at

-- within reach the decider is the one that the columns give
pub decider_by_columns : (page : PageParts) (p : At) (reach : ℕ) (e : EdgeAt) → IsDecider page p e → gap e.y2 (2 * p.y) ≤ reach → column_decider page reach p ≡ Some e
unfolding column_decider
decider_by_columns page p reach e is near = ap (option_map (answer_edge page reach p.y)) best ∙ ap Some (edge_of page p reach e at) where
  at : column_edge page reach e.x2 p.y ≡ Some e.y2
  at = decider_in_column page p reach e is near

  leads : (j : ℕ) → is_answer (column_edge page reach j p.y) ≡ true → (d2 p e ≤ d2 p (answer_edge page reach p.y j)) × (j < e.x2 → d2 p e < d2 p (answer_edge page reach p.y j))
  leads j t =
      let f = answer_decides page reach j p.y t in
      leads_columns p e (answer_edge page reach p.y j) (is.least (answer_edge page reach p.y j) f.edge f.deciding)

  best : first_least (λ x2. d2 p (answer_edge page reach p.y x2)) (λ x2. is_answer (column_edge page reach x2 p.y)) (2 * width page - 1) ≡ Some e.x2
  best = first_least-from (λ x2. d2 p (answer_edge page reach p.y x2)) (λ x2. is_answer (column_edge page reach x2 p.y)) (2 * width page - 1) e.x2 (record {
    below = omega (arith, is.edge.across_page);
    passes = ap is_answer at;
    least = λ j l t. subst (λ (x : EdgeAt). d2 p x ≤ d2 p (answer_edge page reach p.y j)) (sym (edge_of page p reach e at)) (leads j t).0;
    first = λ j l t. subst (λ (x : EdgeAt). d2 p x < d2 p (answer_edge page reach p.y j)) (sym (edge_of page p reach e at)) ((leads j t).1 l);
  })

-- and what the columns give is a deciding edge
mapped : (page : PageParts) (p : At) (reach : ℕ) (o : Option ℕ) → Answers (λ x2. d2 p (answer_edge page reach p.y x2)) (λ x2. is_answer (column_edge page reach x2 p.y)) (2 * width page - 1) o → MatchOption (option_map (answer_edge page reach p.y) o) (Unit {0}) (IsDecidingEdge page)
mapped page p reach None h = tt
mapped page p reach (Some x2) h = answer_decides page reach x2 p.y h.passes

pub columns_decide : (page : PageParts) (p : At) (reach : ℕ) → MatchOption (column_decider page reach p) (Unit {0}) (IsDecidingEdge page)
unfolding column_decider
columns_decide page p reach = mapped page p reach _ (first_least-is (λ x2. d2 p (answer_edge page reach p.y x2)) (λ x2. is_answer (column_edge page reach x2 p.y)) (2 * width page - 1))
