-- The window law.
use Rattle.std.proofs.Common.{◌≡◌, ℕ, ◌+◌, ◌-◌, ◌*◌, ◌<◌, ◌≤◌, Bool, true, false, nat_lt, not, ◌&&◌, inl, inr, refl, sym, ◌∙◌, ap, subst, arith, length, if◌then◌else◌, Option, Some, None}
use Rattle.std.specs.Prelude.{◌==◌}
use Rattle.std.proofs.lemmas.Bool.{cases_lt, ltb-true}
use Rattle.std.proofs.lemmas.Bool.Decides.{nat_tests}
use Rattle.page_model.specs.declared.parts.At.{At}
use Rattle.page_model.specs.declared.parts.EdgeAt.{EdgeAt}
use Rattle.page_model.specs.declared.parts.PageParts.{PageParts}
use Rattle.page_model.specs.declared.parts.Zone.{Zone}
use Rattle.lists.specs.Words.{any_below, gap, greatest_below, square}
use Rattle.page_model.specs.Counts.{plate_changes}
use Rattle.page_model.specs.Decider.{AtMost, decider, IsDecider, NoneDecides}
use Rattle.page_model.specs.Deciding.{decides, lower_mark, right_mark}
use Rattle.page_model.specs.Edges.{IsEdge, d2, lower_edge, right_edge}
use Rattle.page_model.specs.Page.{height, tint, width}
use Rattle.page_model.specs.Reach.{page_reach, params_reach}
use Rattle.page_model.specs.Tints.{new_from}
use Rattle.page_model.specs.Trapped.{trapped_by}
use Rattle.page_model.proofs.DeciderLemmas.{Decides, decider-from, decider-is}
use Rattle.page_model.proofs.ReachLaws.{far_traps_nothing}
use Rattle.page_model.proofs.ReachLemmas.{root_less}
use Rattle.sheet_geometry.specs.declared.cuts.Cut.{Cut}
use Rattle.sheet_geometry.specs.WindowLaw.{IsInside, TrapsAlike, WindowLaw}
use Rattle.sheet_geometry.specs.Windows.{IsCut, edge_on_sheet, on_sheet, window}
use Rattle.sheet_geometry.proofs.Parts.{Lies, height-is, lies, plates-same, tint-same, width-is, zone_at-is, zones-same}
use Rattle.sheet_geometry.proofs.Rules.{LiesEdge, d2-on, decides-same, lies_edge, new_by-same, sheet_edge, trapped-same}
use Rattle.sheet_geometry.proofs.Zones.{zone_of-same}

pub reach-same : (sheet : PageParts) (cut : Cut) → page_reach (window sheet cut) ≡ page_reach sheet
unfolding page_reach
reach-same sheet cut = λ i. greatest_below (λ z. zone_of_reach (zone_at-is sheet cut z i)) (zones-same sheet cut i) where
  zone_of_reach : Zone → ℕ
  zone_of_reach zone = if zone.params.enabled then params_reach sheet.resolution zone.params else 0

-- ---- marks

guarded : (a b c d : Bool) → a ≡ b → (a ≡ true → c ≡ d) → (a && c) ≡ (b && d)
guarded true true c d e h = h refl
guarded false false c d e h = refl
guarded true false c d e h = absurd (cc)
guarded false true c d e h = absurd (cc)

-- whether there is a neighbour, on the window and on the sheet
more_there : (x w left wide a : ℕ) → a ≡ w → x < w → left + w ≤ wide → (left + w < wide → x + 1 < w) → nat_lt (x + 1) a ≡ nat_lt (left + x + 1) wide
more_there x w left wide a e l inside h = elim (cases_lt (left + w) wide) [
  | inl less ↦ (let m = h less in grind (arith, nat_tests))
  | inr most ↦ grind (arith, nat_tests)
]

module _ (sheet : PageParts) (cut : Cut) (is : IsCut sheet cut) where
  pub right-same : (p : At) → Lies cut p → (cut.left + cut.width < width sheet → p.x + 1 < cut.width) → right_mark (window sheet cut) p.y p.x ≡ right_mark sheet (cut.top + p.y) (cut.left + p.x)
  right-same p here more =
      guarded (nat_lt (p.x + 1) (width (window sheet cut))) (nat_lt (cut.left + p.x + 1) (width sheet)) (decides (window sheet cut) (right_edge p.x p.y)) (decides sheet (right_edge (cut.left + p.x) (cut.top + p.y)))
      (more_there p.x cut.width cut.left (width sheet) (width (window sheet cut)) (width-is sheet cut is) here.x is.across more)
      (λ t. decides-same sheet cut is (right_edge p.x p.y) (record { x = across t; y = (let b = here.y in omega (arith, b)) })
      ∙ ap (decides sheet) (λ i. record { x2 = at_x i; y2 = at_y i })) where
        at_x : 2 * cut.left + (2 * p.x + 1) ≡ 2 * (cut.left + p.x) + 1
        at_x = omega arith

        at_y : 2 * cut.top + 2 * p.y ≡ 2 * (cut.top + p.y)
        at_y = omega arith

        across : nat_lt (p.x + 1) (width (window sheet cut)) ≡ true → 2 * p.x + 1 + 2 ≤ 2 * cut.width
        across t = (let l = ltb-true _ _ t in let w = width-is sheet cut is in omega (arith, l, w))

  pub lower-same : (p : At) → Lies cut p → (cut.top + cut.height < height sheet → p.y + 1 < cut.height) → lower_mark (window sheet cut) p.y p.x ≡ lower_mark sheet (cut.top + p.y) (cut.left + p.x)
  lower-same p here more =
      guarded (nat_lt (p.y + 1) (height (window sheet cut))) (nat_lt (cut.top + p.y + 1) (height sheet)) (decides (window sheet cut) (lower_edge p.x p.y)) (decides sheet (lower_edge (cut.left + p.x) (cut.top + p.y)))
      (more_there p.y cut.height cut.top (height sheet) (height (window sheet cut)) (height-is sheet cut is) here.y is.down more)
      (λ t. decides-same sheet cut is (lower_edge p.x p.y) (record { x = (let b = here.x in omega (arith, b)); y = down t })
      ∙ ap (decides sheet) (λ i. record { x2 = at_x i; y2 = at_y i })) where
        at_x : 2 * cut.left + 2 * p.x ≡ 2 * (cut.left + p.x)
        at_x = omega arith

        at_y : 2 * cut.top + (2 * p.y + 1) ≡ 2 * (cut.top + p.y) + 1
        at_y = omega arith

        down : nat_lt (p.y + 1) (height (window sheet cut)) ≡ true → 2 * p.y + 1 + 2 ≤ 2 * cut.height
        down t = (let l = ltb-true _ _ t in let h = height-is sheet cut is in omega (arith, l, h))

-- ---- traps

-- an edge of the sheet that is near enough to a sample inside is one of the window
near_left : (x left x2 reach : ℕ) → gap x2 (2 * (left + x)) ≤ reach → (0 < left → reach ≤ 2 * x) → 2 * left ≤ x2
near_left x left x2 reach near low = elim (cases_lt 0 left) [
  | inl some ↦ (let l = low some in omega (arith, near, l))
  | inr none ↦ omega (arith, none)
]

near_right : (x left w wide x2 reach : ℕ) → left + w ≤ wide → x < w → x2 + 2 ≤ 2 * wide → gap x2 (2 * (left + x)) ≤ reach → (left + w < wide → reach + 2 * x + 2 ≤ 2 * w) → x2 + 2 ≤ 2 * (left + w)
near_right x left w wide x2 reach inside l edge near high = elim (cases_lt (left + w) wide) [
  | inl less ↦ (let h = high less in omega (arith, near, h))
  | inr most ↦ omega (arith, most, edge)
]

near_edge : (x left w wide x2 reach : ℕ) → left + w ≤ wide → x < w → x2 + 2 ≤ 2 * wide → gap x2 (2 * (left + x)) ≤ reach → (0 < left → reach ≤ 2 * x) → (left + w < wide → reach + 2 * x + 2 ≤ 2 * w) → (2 * left ≤ x2) × (x2 + 2 ≤ 2 * (left + w))
near_edge x left w wide x2 reach inside l edge near low high = (near_left x left x2 reach near low, near_right x left w wide x2 reach inside l edge near high)

gaps : (a b r : ℕ) → square a + square b < square (r + 1) → (a ≤ r) × (b ≤ r)
gaps a b r l = (let s : a < r + 1 = root_less a (r + 1) (omega (arith, l)) in let t : b < r + 1 = root_less b (r + 1) (omega (arith, l)) in (omega (arith, s), omega (arith, t)))

farther : (r d e : ℕ) → r ≤ d → d ≤ e → r ≤ e
farther r d e a b = omega arith

at_least : (p : At) (e f : EdgeAt) → AtMost p e f → d2 p e ≤ d2 p f
at_least p e f (inl less) = omega (arith, less)
at_least p e f (inr same) = (let s = same.0 in omega (arith, s))

-- what comes of a sample by an answer of its page's decider
record Same (sheet : PageParts) (cut : Cut) (p : At) (o o' : Option EdgeAt) : Type 0 where
  trapped : trapped_by (window sheet cut) p o ≡ trapped_by sheet (on_sheet cut p) o'
  tints : (c : ℕ) → new_from (window sheet cut) p c o ≡ new_from sheet (on_sheet cut p) c o'

-- an edge of the sheet is one of the window
record Found (cut : Cut) (e : EdgeAt) : Type 0 where
  edge : EdgeAt
  same : edge_on_sheet cut edge ≡ e
  lies : LiesEdge cut edge

module _ (sheet : PageParts) (cut : Cut) (is : IsCut sheet cut) (p : At) (inside : IsInside sheet cut (page_reach sheet) p) where
  here : Lies cut p
  here = record { x = inside.x; y = inside.y }

  tall : 1 ≤ height sheet
  tall = (let a = is.down in let b = is.some_height in omega (arith, a, b))

  tall_window : 1 ≤ height (window sheet cut)
  tall_window = (let a = height-is sheet cut is in let b = is.some_height in omega (arith, a, b))

  -- a deciding edge of the window is one of the sheet
  decides_there : (f : EdgeAt) → IsEdge (window sheet cut) f → decides (window sheet cut) f ≡ true → decides sheet (edge_on_sheet cut f) ≡ true
  decides_there f edge d = sym (decides-same sheet cut is f (lies_edge sheet cut f is edge)) ∙ d

  -- the decider of the window is beyond the reach, or there is none
  nothing : (o : Option EdgeAt) → Decides (window sheet cut) p o → ((f : EdgeAt) → IsEdge (window sheet cut) f → decides (window sheet cut) f ≡ true → square (page_reach sheet + 1) ≤ d2 p f)
      → (o' : Option EdgeAt) → trapped_by sheet (on_sheet cut p) o' ≡ false → ((c : ℕ) → new_from sheet (on_sheet cut p) c o' ≡ tint sheet c (on_sheet cut p)) → Same sheet cut p o o'
  nothing None h far o' off kept = record { trapped = sym off; tints = λ c. tint-same sheet cut c p is here ∙ sym (kept c) }
  nothing (Some f) h far o' off kept =
      let some : 1 ≤ length (window sheet cut).zones = (let a = zones-same sheet cut in let b = is.some_zones in omega (arith, a, b)) in
      let away : square (page_reach (window sheet cut) + 1) ≤ d2 p f = rw (reach-same sheet cut) (far f h.edge h.deciding) in
      let none = far_traps_nothing (window sheet cut) p f some away in
      record { trapped = none.trapped ∙ sym off; tints = λ c. none.tints c ∙ tint-same sheet cut c p is here ∙ sym (kept c) }

  none_far : NoneDecides sheet → (f : EdgeAt) → IsEdge (window sheet cut) f → decides (window sheet cut) f ≡ true → square (page_reach sheet + 1) ≤ d2 p f
  none_far none f edge d = absurd (none (edge_on_sheet cut f) (sheet_edge sheet cut f is edge) (decides_there f edge d))

  all_far : (e : EdgeAt) → IsDecider sheet (on_sheet cut p) e → square (page_reach sheet + 1) ≤ d2 (on_sheet cut p) e → (f : EdgeAt) → IsEdge (window sheet cut) f → decides (window sheet cut) f ≡ true → square (page_reach sheet + 1) ≤ d2 p f
  all_far e h far f edge d =
      let least = at_least (on_sheet cut p) e (edge_on_sheet cut f) (h.least (edge_on_sheet cut f) (sheet_edge sheet cut f is edge) (decides_there f edge d)) in
      rw (d2-on cut p f) at (farther _ _ _ far least)

  found : (e : EdgeAt) → IsEdge sheet e → d2 (on_sheet cut p) e < square (page_reach sheet + 1) → Found cut e
  found e edge near =
      let both = gaps (gap e.x2 (2 * (cut.left + p.x))) (gap e.y2 (2 * (cut.top + p.y))) (page_reach sheet) near in
      let across = near_edge p.x cut.left cut.width (width sheet) e.x2 (page_reach sheet) is.across inside.x edge.across_page both.0 inside.left inside.right in
      let down = near_edge p.y cut.top cut.height (height sheet) e.y2 (page_reach sheet) is.down inside.y edge.down_page both.1 inside.top inside.bottom in
      let at_x : 2 * cut.left + (e.x2 - 2 * cut.left) ≡ e.x2 = (let a = across.0 in omega (arith, a)) in
      let at_y : 2 * cut.top + (e.y2 - 2 * cut.top) ≡ e.y2 = (let a = down.0 in omega (arith, a)) in
      record {
        edge = record { x2 = e.x2 - 2 * cut.left; y2 = e.y2 - 2 * cut.top };
        same = λ i. record { x2 = at_x i; y2 = at_y i };
        lies = record { x = (let a = across.0 in let b = across.1 in omega (arith, a, b)); y = (let a = down.0 in let b = down.1 in omega (arith, a, b)) };
      }

  at_most_moved : (e f : EdgeAt) → AtMost (on_sheet cut p) (edge_on_sheet cut e) (edge_on_sheet cut f) → AtMost p e f
  at_most_moved e f (inl less) = inl (let a = d2-on cut p e in let b = d2-on cut p f in omega (arith, less, a, b))
  at_most_moved e f (inr (same, inl left)) = inr (sym (d2-on cut p e) ∙ same ∙ d2-on cut p f, inl (omega (arith, left)))
  at_most_moved e f (inr (same, inr up)) = inr (sym (d2-on cut p e) ∙ same ∙ d2-on cut p f, inr ((let a = up.0 in omega (arith, a)), (let a = up.1 in omega (arith, a))))

  window_edge : (e : EdgeAt) → LiesEdge cut e → IsEdge sheet (edge_on_sheet cut e) → IsEdge (window sheet cut) e
  window_edge e l edge = record {
    one_odd = (let odd = edge.one_odd in omega (arith, odd));
    across_page = (let a = l.x in let w = width-is sheet cut is in omega (arith, a, w));
    down_page = (let a = l.y in let h = height-is sheet cut is in omega (arith, a, h));
  }

  is_decider : (e : EdgeAt) → LiesEdge cut e → IsDecider sheet (on_sheet cut p) (edge_on_sheet cut e) → IsDecider (window sheet cut) p e
  is_decider e l h = record {
    edge = window_edge e l h.edge;
    deciding = decides-same sheet cut is e l ∙ h.deciding;
    least = λ f edge d. at_most_moved e f (h.least (edge_on_sheet cut f) (sheet_edge sheet cut f is edge) (decides_there f edge d));
  }

  by_edge : (e : EdgeAt) → LiesEdge cut e → Same sheet cut p (Some e) (Some (edge_on_sheet cut e))
  by_edge e l = record { trapped = trapped-same sheet cut is p e here l; tints = λ c. new_by-same sheet cut is p e c here l }

  same_by : (o' : Option EdgeAt) → Decides sheet (on_sheet cut p) o' → Same sheet cut p (decider (window sheet cut) p) o'
  same_by None h = nothing (decider (window sheet cut) p) (decider-is (window sheet cut) p tall_window) (none_far h) None refl (λ c. refl)
  same_by (Some e) h = elim (cases_lt (d2 (on_sheet cut p) e) (square (page_reach sheet + 1))) [
    | inl near ↦ (let there = found e h.edge near in
        let moved = subst (λ (g : EdgeAt). IsDecider sheet (on_sheet cut p) g) (sym there.same) h in
        let answer = decider-from (window sheet cut) p there.edge tall_window (is_decider there.edge there.lies moved) in
        subst (λ (o : Option EdgeAt). Same sheet cut p o (Some e)) (sym answer) (subst (λ (g : EdgeAt). Same sheet cut p (Some there.edge) (Some g)) there.same (by_edge there.edge there.lies)))
    | inr far ↦ (let off = far_traps_nothing sheet (on_sheet cut p) e is.some_zones far in
        nothing (decider (window sheet cut) p) (decider-is (window sheet cut) p tall_window) (all_far e h far) (Some e) off.trapped off.tints)
  ]

  traps_same : Same sheet cut p (decider (window sheet cut) p) (decider sheet (on_sheet cut p))
  traps_same = same_by (decider sheet (on_sheet cut p)) (decider-is sheet (on_sheet cut p) tall)

  plates_same : (c : ℕ) → plate_changes (window sheet cut) c p ≡ plate_changes sheet c (on_sheet cut p)
  plates_same c = λ i. not (traps_same.tints c i == tint-same sheet cut c p is here i)

  pub traps_alike : TrapsAlike sheet cut p
  traps_alike = record {
    trapped = traps_same.trapped;
    tints = traps_same.tints;
    plates = plates_same;
    changes = λ i. any_below (λ c. plates_same c i) (plates-same sheet cut i);
  }

pub window_law : (sheet : PageParts) (cut : Cut) → IsCut sheet cut → WindowLaw sheet cut
window_law sheet cut is = record {
  samples = λ p page. (let here = lies sheet cut p is page in record { tints = λ c. tint-same sheet cut c p is here; zone = zone_of-same sheet cut p is here });
  edges = λ e edge. decides-same sheet cut is e (lies_edge sheet cut e is edge);
  marks = λ p page. (let here = lies sheet cut p is page in record { right = right-same sheet cut is p here; lower = lower-same sheet cut is p here });
  reach = reach-same sheet cut;
  traps = λ p inside. traps_alike sheet cut is p inside;
}
