-- The decider that is computed is the decider of the rule, and the only one.
use Rattle.std.specs.Prelude.{⊤}
use Rattle.std.proofs.Common.{◌≡◌, ◌⊎◌, ℕ, ◌*◌, ◌-◌, ◌<◌, ◌≤◌, Bool, true, false, inl, inr, sym, ◌∙◌, ap, arith, Option, Some, None}
use Rattle.std.specs.Option.{MatchOption, option_map}
use Rattle.std.proofs.lemmas.Bool.{and_parts, and_from, eqb-true, eq-eqb, cases_lt, cases_order, false≢true}
use Rattle.std.proofs.Math.Nat.{div-lt_iff_lt-mul}
use Rattle.page_model.specs.declared.parts.At.{At}
use Rattle.page_model.specs.declared.parts.EdgeAt.{EdgeAt}
use Rattle.page_model.specs.declared.parts.PageParts.{PageParts}
use Rattle.page_model.specs.Conditions.{IsPage}
use Rattle.page_model.specs.Decider.{AtMost, decider, grid_point, grid_rows, grid_points, is_candidate, IsDecider, NoneDecides}
use Rattle.page_model.specs.Deciding.{decides}
use Rattle.page_model.specs.Edges.{IsEdge, d2}
use Rattle.page_model.specs.Page.{height, width}
use Rattle.page_model.specs.Planes.{no_plane}
use Rattle.lists.specs.Words.{IsFirstLeast}
use Rattle.lists.proofs.FirstLeast.{first_least-is}
use Rattle.page_model.proofs.Grid.{point, number, point-number, number-below, points_in_order}

-- e has at most the rank of f, and comes first where the ranks are equal
abbrev Leads : (EdgeAt → ℕ) → EdgeAt → EdgeAt → Type 0
Leads rank e f = (rank e < rank f) ⊎ ((rank e ≡ rank f) × ((e.x2 < f.x2) ⊎ ((e.x2 ≡ f.x2) × (e.y2 ≤ f.y2))))

pub record IsBest (w r : ℕ) (rank : EdgeAt → ℕ) (test : EdgeAt → Bool) (e : EdgeAt) : Type 0 where
  pub left : e.x2 < w
  pub top : e.y2 < r
  pub passes : test e ≡ true
  pub least : (f : EdgeAt) → f.x2 < w → f.y2 < r → test f ≡ true → Leads rank e f

leads_from : (w r : ℕ) (rank : EdgeAt → ℕ) (test : EdgeAt → Bool) (k j : ℕ) → 0 < r → IsFirstLeast (λ i. rank (point r i)) (λ i. test (point r i)) (w * r) k → j < w * r → test (point r j) ≡ true → Leads rank (point r k) (point r j)
leads_from w r rank test k j some h below t = elim (cases_lt j k) [
  | inl before ↦ inl (h.first j before t)
  | inr after ↦ elim (cases_order (rank (point r k)) (rank (point r j))) [
    | inl e ↦ inr (e, points_in_order r k j some after)
    | inr (inl l) ↦ inl l
    | inr (inr l) ↦ (let e : ⊥ = omega (arith, l, h.least j below t) in absurd e)
  ]
]

best_from : (w r : ℕ) (rank : EdgeAt → ℕ) (test : EdgeAt → Bool) (k : ℕ) → 0 < r → IsFirstLeast (λ i. rank (point r i)) (λ i. test (point r i)) (w * r) k → IsBest w r rank test (point r k)
best_from w r rank test k some h = record {
  left = (div-lt_iff_lt-mul some).1 h.below;
  top = omega arith;
  passes = h.passes;
  least = λ f x y t. (let same = point-number r f y in
      rw (← same) (leads_from w r rank test k (number r f) some h (number-below r w f x y) (rw same t)));
}

none_from : (w r : ℕ) (test : EdgeAt → Bool) → ((j : ℕ) → j < w * r → test (point r j) ≡ false) → (f : EdgeAt) → f.x2 < w → f.y2 < r → test f ≡ true → ⊥
none_from w r test none f x y t = false≢true (sym (none (number r f) (number-below r w f x y)) ∙ rw (point-number r f y) t)

abbrev candidate : PageParts → EdgeAt → Bool
candidate page e = is_candidate page e

candidate_from : (page : PageParts) (f : EdgeAt) → IsEdge page f → decides page f ≡ true → candidate page f ≡ true
candidate_from page f e d = and_from _ _ (eq-eqb _ _ e.one_odd) d

decider_from : (page : PageParts) (p : At) (e : EdgeAt) → IsBest (2 * width page - 1) (grid_rows page) (d2 p) (candidate page) e → IsDecider page p e
decider_from page p e b =
    let parts = and_parts _ _ b.passes in
    record {
      edge = record { one_odd = eqb-true _ _ parts.0; across_page = omega (arith, b.left); down_page = omega (arith, b.top) };
      deciding = parts.1;
      least = λ f edge d. b.least f (omega (arith, edge.across_page)) (omega (arith, edge.down_page)) (candidate_from page f edge d);
    }

abbrev pub Decides : PageParts → At → Option EdgeAt → Type 0
Decides page p o = MatchOption o (NoneDecides page) (IsDecider page p)

mapped : (page : PageParts) (p : At) → 1 ≤ height page → (o : Option ℕ) → MatchOption o ((j : ℕ) → j < grid_points page → candidate page (grid_point page j) ≡ false) (IsFirstLeast (λ k. d2 p (grid_point page k)) (λ k. candidate page (grid_point page k)) (grid_points page)) → Decides page p (option_map (grid_point page) o)
mapped page p tall None h = λ f edge d. none_from (2 * width page - 1) (grid_rows page) (candidate page) h f (omega (arith, edge.across_page)) (omega (arith, edge.down_page)) (candidate_from page f edge d)
mapped page p tall (Some k) h = decider_from page p (grid_point page k) (best_from (2 * width page - 1) (grid_rows page) (d2 p) (candidate page) k (omega (arith, tall)) h)

-- the computed decider is the decider, on pages of any sides
pub decider-is : (page : PageParts) (p : At) → 1 ≤ height page → Decides page p (decider page p)
unfolding decider
decider-is page p tall = mapped page p tall _ (first_least-is (λ k. d2 p (grid_point page k)) (λ k. candidate page (grid_point page k)) (grid_points page))

-- a page has rows
pub some_rows : (page : PageParts) → IsPage page → 1 ≤ height page
some_rows page valid = (valid.parts.planes_in_range 0 no_plane (omega (arith, valid.parts.some_plates))).some_height

pub decider_found : (page : PageParts) (p : At) → IsPage page → MatchOption (decider page p) ⊤ (IsDecider page p)
decider_found page p valid = go (decider page p) (decider-is page p (some_rows page valid)) where
  go : (o : Option EdgeAt) → Decides page p o → MatchOption o ⊤ (IsDecider page p)
  go None h = tt
  go (Some e) h = h

pub decider_none : (page : PageParts) (p : At) → IsPage page → decider page p ≡ None → NoneDecides page
decider_none page p valid at = go (decider page p) (decider-is page p (some_rows page valid)) at where
  go : (o : Option EdgeAt) → Decides page p o → o ≡ None → NoneDecides page
  go None h q = h
  go (Some e) h q = cc

both_ways : (d d' x x' y y' : ℕ) → (d < d') ⊎ ((d ≡ d') × ((x < x') ⊎ ((x ≡ x') × (y ≤ y')))) → (d' < d) ⊎ ((d' ≡ d) × ((x' < x) ⊎ ((x' ≡ x) × (y' ≤ y)))) → (x ≡ x') × (y ≡ y')
both_ways d d' x x' y y' (inl a) (inl b) = absurd (omega (arith, a, b))
both_ways d d' x x' y y' (inl a) (inr b) = absurd (let e = b.0 in omega (arith, a, e))
both_ways d d' x x' y y' (inr a) (inl b) = absurd (let e = a.0 in omega (arith, b, e))
both_ways d d' x x' y y' (inr (e, inl a)) (inr (g, inl b)) = absurd (omega (arith, a, b))
both_ways d d' x x' y y' (inr (e, inl a)) (inr (g, inr b)) = absurd (let c = b.0 in omega (arith, a, c))
both_ways d d' x x' y y' (inr (e, inr a)) (inr (g, inl b)) = absurd (let c = a.0 in omega (arith, b, c))
both_ways d d' x x' y y' (inr (e, inr a)) (inr (g, inr b)) = (a.0, (let c = a.1 in let f = b.1 in omega (arith, c, f)))

-- of two edges each of which comes before the other one is the other
least-unique : (p : At) (e f : EdgeAt) → AtMost p e f → AtMost p f e → e ≡ f
least-unique p e f a b = (let same = both_ways (d2 p e) (d2 p f) e.x2 f.x2 e.y2 f.y2 a b in λ i. record { x2 = same.0 i; y2 = same.1 i })

decider-unique : (page : PageParts) (p : At) (e f : EdgeAt) → IsDecider page p e → IsDecider page p f → e ≡ f
decider-unique page p e f a b = least-unique p e f (a.least f b.edge b.deciding) (b.least e a.edge a.deciding)

-- what is the decider is what is computed
pub decider-from : (page : PageParts) (p : At) (e : EdgeAt) → 1 ≤ height page → IsDecider page p e → decider page p ≡ Some e
decider-from page p e tall is = go (decider page p) (decider-is page p tall) where
  go : (o : Option EdgeAt) → Decides page p o → o ≡ Some e
  go None h = absurd (h e is.edge is.deciding)
  go (Some f) h = ap Some (decider-unique page p f e h is)
