-- What is too far from every deciding edge keeps its tints.
use Rattle.std.specs.Prelude.{⊤}
use Rattle.std.proofs.Common.{◌≡◌, ℕ, zero, suc, ◌+◌, ◌*◌, ◌-◌, ◌<◌, ◌≤◌, Bool, true, false, ◌&&◌, ◌||◌, not, nat_lt, min, inl, inr, refl, sym, ◌∙◌, ap, arith, List, length, slice_index, Option, Some, None, if◌then◌else◌}
use Rattle.std.specs.Option.{MatchOption}
use Rattle.std.proofs.Math.Nat.{mul-le-mul}
use Rattle.std.proofs.lemmas.Bool.{and_from, cases_Bool, cases_lt, eq-eqb, false≢true, le-leb, leb-true}
use Rattle.page_model.specs.declared.parts.At.{At}
use Rattle.page_model.specs.declared.parts.EdgeAt.{EdgeAt}
use Rattle.page_model.specs.declared.parts.PageParts.{PageParts}
use Rattle.page_model.specs.Apart.{apart}
use Rattle.page_model.specs.Columns.{column_answer, column_decider, column_edge, edge_decides, is_answer}
use Rattle.page_model.specs.Conditions.{IsPage}
use Rattle.page_model.specs.Decider.{IsDecider, decider, grid_rows}
use Rattle.page_model.specs.Deciding.{decides}
use Rattle.page_model.specs.Density.{density, shut, spreads}
use Rattle.page_model.specs.Edges.{IsEdge, across, d2, own}
use Rattle.page_model.specs.Page.{ink_at, params_at, tint, width}
use Rattle.page_model.specs.Reach.{page_reach, params_reach, zone_reach}
use Rattle.page_model.specs.Tints.{new, new_from, new_in, scaled_in}
use Rattle.page_model.specs.Trapped.{trapped_by, trapped_in}
use Rattle.page_model.specs.Within.{black, edge_slid, within_in}
use Rattle.page_model.specs.Zones.{zone_of}
use Rattle.page_model.proofs.ColumnDecider.{IsDecidingEdge, column_edge-is, columns_decide, passes, rank}
use Rattle.page_model.proofs.DeciderLemmas.{decider_found}
use Rattle.page_model.proofs.PageLemmas.{plane_of}
use Rattle.page_model.proofs.ReachLaws.{traps_by_columns}
use Rattle.page_model.proofs.ReachLemmas.{at_most_greatest, five_false, not_near}
use Rattle.page_model.proofs.ZoneLemmas.{zone_of-is}
use Rattle.lists.proofs.FirstLeast.{Answers}
use Rattle.lists.specs.Words.{gap, greatest_below, square}
use Rattle.row_values.proofs.ArmsLemmas.{coded}
use Rattle.row_values.specs.Arms.{AreAnswers}
use Rattle.row_values.specs.Quiet.{KeepsTints, NoMarkNear, is_far_off}

enabled_reach : (page : PageParts) (z : ℕ) → z < length page.zones → (params_at page z).enabled ≡ true → params_reach page.resolution (params_at page z) ≤ page_reach page
unfolding page_reach
enabled_reach page z known on =
    let same : zone_reach page z ≡ params_reach page.resolution (params_at page z) = ap (λ (b : Bool). if b then params_reach page.resolution (params_at page z) else 0) on in
    rw same at (at_most_greatest (zone_reach page) (length page.zones) z known)

not_within : (page : PageParts) (z : ℕ) (p : At) (e : EdgeAt) → z < length page.zones → square (page_reach page + 1) ≤ d2 p e → (params_at page z).enabled ≡ true → within_in page z p e ≡ false
unfolding within_in
not_within page z p e known far on =
    let params = params_at page z in
    not_near (d2 p e) params.trap_width params.black_width page.resolution (page_reach page) (black page params e) (edge_slid page params e) far (enabled_reach page z known on)

not_trapped : (page : PageParts) (z : ℕ) (p : At) (e : EdgeAt) → ((params_at page z).enabled ≡ true → within_in page z p e ≡ false) → trapped_in page z p e ≡ false
unfolding trapped_in
not_trapped page z p e h = five_false (not (shut page p)) (params_at page z).enabled (within_in page z p e) (apart page z p (across p e)) (edge_slid page (params_at page z) e || nat_lt (density page (across p e)) (density page (own p e))) h

kept_in : (page : PageParts) (z : ℕ) (p : At) (e : EdgeAt) (c : ℕ) → trapped_in page z p e ≡ false → new_in page z p e c ≡ tint page c p
unfolding new_in
kept_in page z p e c h = ap (λ (b : Bool). if b && spreads (ink_at page c).kind then scaled_in page z p e c else tint page c p) h

kept_from : (page : PageParts) (p : At) (o : Option EdgeAt) (c : ℕ) → trapped_by page p o ≡ false → new_from page p c o ≡ tint page c p
kept_from page p None c h = refl
kept_from page p (Some e) c h = kept_in page (zone_of page p) p e c h

far_trapped : (page : PageParts) (p : At) (o : Option EdgeAt) → IsPage page → is_far_off p (page_reach page) o ≡ true → trapped_by page p o ≡ false
far_trapped page p None valid far = refl
far_trapped page p (Some e) valid far = not_trapped page (zone_of page p) p e (not_within page (zone_of page p) p e (zone_of-is page p valid).known (leb-true _ _ far))

-- with the edge that the columns of its row give

keeps : (page : PageParts) (p : At) (o : Option EdgeAt) (c : ℕ) → IsPage page → o ≡ column_decider page (page_reach page) p → trapped_by page p o ≡ false → new page p c ≡ tint page c p
keeps page p o c valid e h = sym ((traps_by_columns page p valid).tints_alike c) ∙ ap (new_from page p c) (sym e) ∙ kept_from page p o c h

pub keeps_here : (page : PageParts) (p : At) (o : Option EdgeAt) → IsPage page → o ≡ column_decider page (page_reach page) p → trapped_by page p o ≡ false → KeepsTints page p
keeps_here page p o valid e h = λ c. keeps page p o c valid e h

pub keeps_far : (page : PageParts) (p : At) (o : Option EdgeAt) (reach : ℕ) → IsPage page → o ≡ column_decider page (page_reach page) p → reach ≡ page_reach page → true ≡ is_far_off p reach o → KeepsTints page p
keeps_far page p o reach valid e er far = keeps_here page p o valid e (far_trapped page p o valid (ap (λ (r : ℕ). is_far_off p r o) (sym er) ∙ sym far))

pub new_by_columns : (page : PageParts) (p : At) (o : Option EdgeAt) (c t : ℕ) → IsPage page → o ≡ column_decider page (page_reach page) p → t ≡ new_from page p c o → t ≡ new page p c
new_by_columns page p o c t valid e et = et ∙ ap (new_from page p c) e ∙ (traps_by_columns page p valid).tints_alike c

deciding_edge : (page : PageParts) (o : Option EdgeAt) (e : EdgeAt) → MatchOption o (Unit {0}) (IsDecidingEdge page) → o ≡ Some e → IsEdge page e
deciding_edge page None e h q = cc
deciding_edge page (Some f) e h q = (let same : f ≡ e = cc in rw (← same) h.edge)

-- the edge that the columns give is one of the page
pub edge_is : (page : PageParts) (p : At) (o : Option EdgeAt) (e : EdgeAt) → o ≡ column_decider page (page_reach page) p → o ≡ Some e → IsEdge page e
edge_is page p o e d q = deciding_edge page o e (rw d (columns_decide page p (page_reach page))) q

pub edge_small : (page : PageParts) (e : EdgeAt) → IsPage page → IsEdge page e → (e.x2 < 32768) × (e.y2 < 32768)
edge_small page e valid is =
    let plane = plane_of page 0 valid valid.parts.some_plates in
    (omega (arith, is.across_page, plane.narrow), omega (arith, is.down_page, plane.low))

-- no mark within reach, no new tint

square_of : (r a : ℕ) → r < a → square (r + 1) ≤ square a
square_of r a l = mul-le-mul (omega (arith, l)) (omega (arith, l))

pub quiet : (page : PageParts) (p : At) → IsPage page → NoMarkNear page p → KeepsTints page p
quiet page p valid none c = kept_from page p (decider page p) c (far_trapped page p (decider page p) valid (far (decider page p) (decider_found page p valid))) where
  far : (o : Option EdgeAt) → MatchOption o ⊤ (IsDecider page p) → is_far_off p (page_reach page) o ≡ true
  far None h = refl
  far (Some e) h = elim (cases_lt (page_reach page) (gap e.x2 (2 * p.x))) [
    | inl aside ↦ le-leb _ _ (omega (arith, square_of (page_reach page) (gap e.x2 (2 * p.x)) aside))
    | inr near ↦ elim (cases_lt (page_reach page) (gap e.y2 (2 * p.y))) [
      | inl along ↦ le-leb _ _ (omega (arith, square_of (page_reach page) (gap e.y2 (2 * p.y)) along))
      | inr close ↦ absurd (false≢true (sym (none e h.edge near close) ∙ h.deciding))
    ]
  ]

-- the reach of a page

greatest_at_most : (f : ℕ → ℕ) (n m : ℕ) → ((k : ℕ) → k < n → f k ≤ m) → greatest_below f n ≤ m
greatest_at_most f zero m h = omega arith
greatest_at_most f (suc n) m h = omega (arith, greatest_at_most f n m (λ k l. h k (omega (arith, l))), h n (omega arith))

pub reach_at_most : (page : PageParts) → IsPage page → page_reach page ≤ 256
unfolding page_reach
reach_at_most page valid = greatest_at_most (zone_reach page) (length page.zones) 256 valid.near

-- what decides has an answer in its column

decides_there : (page : PageParts) (e : EdgeAt) → IsEdge page e → decides page e ≡ true → edge_decides page e.x2 e.y2 ≡ true
unfolding edge_decides
decides_there page e is d = and_from _ _ (eq-eqb _ _ is.one_odd) (and_from _ _ (le-leb _ _ is.across_page) (and_from _ _ (le-leb _ _ is.down_page) d))

answered : (page : PageParts) (reach y : ℕ) (e : EdgeAt) (o : Option ℕ) → Answers (rank y) (passes page reach e.x2 y) (grid_rows page) o → e.y2 < grid_rows page → passes page reach e.x2 y e.y2 ≡ true → is_answer o ≡ true
answered page reach y e None none l p = absurd (false≢true (sym (none e.y2 l) ∙ p))
answered page reach y e (Some k) best l p = refl

pub no_answers : (page : PageParts) (p : At) → IsPage page → ((x2 : ℕ) → x2 < 2 * width page - 1 → gap x2 (2 * p.x) ≤ page_reach page → column_answer page (page_reach page) x2 p.y ≡ 0) → NoMarkNear page p
no_answers page p valid zeros = λ e is near close. elim (cases_Bool (decides page e)) [
  | inl t ↦ (let p_is : passes page (page_reach page) e.x2 p.y e.y2 ≡ true = and_from _ _ (decides_there page e is t) (le-leb _ _ close) in
      let has = answered page (page_reach page) p.y e (column_edge page (page_reach page) e.x2 p.y) (column_edge-is page (page_reach page) e.x2 p.y) (omega (arith, is.down_page)) p_is in
      let some = coded page (page_reach page) e.x2 p.y 0 (reach_at_most page valid) (sym (zeros e.x2 (omega (arith, is.across_page)) near)) has in
      absurd (omega (arith, some)))
  | inr f ↦ f
]

-- a row without an answer
pub quiet_row : (page : PageParts) (y : ℕ) (codes : List ℕ) → IsPage page → AreAnswers page (page_reach page) y (2 * width page - 1) codes → ((k : ℕ) → k < length codes → slice_index codes k ≡ 0) → (x : ℕ) → KeepsTints page (record { x = x; y = y })
quiet_row page y codes valid are zeros x = let p : At = record { x = x; y = y } in quiet page p valid (no_answers page p valid (λ x2 l near. sym (are.each x2 l) ∙ zeros x2 (omega (arith, are.len, l))))

-- samples side by side that no answer is within reach of
pub quiet_samples : (page : PageParts) (y x count reach from to : ℕ) (codes : List ℕ) → IsPage page → reach ≡ page_reach page → AreAnswers page (page_reach page) y (2 * width page - 1) codes → from ≡ 2 * x - reach → to ≡ min (length codes) (2 * (x + count) + reach) → ((k : ℕ) → from ≤ k → k < to → slice_index codes k ≡ 0) → (k : ℕ) → x ≤ k → k < x + count → KeepsTints page (record { x = k; y = y })
quiet_samples page y x count reach from to codes valid is_reach are is_from is_to zeros k lo hi =
    let p : At = record { x = k; y = y } in
    quiet page p valid (no_answers page p valid (λ x2 l near. sym (are.each x2 l) ∙ zeros x2 (omega (arith, is_from, is_reach, near, lo)) (omega (arith, is_to, is_reach, are.len, near, l, hi))))
