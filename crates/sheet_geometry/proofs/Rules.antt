-- The rule at samples and edges of a window, each from its parts, is that of the sheet.
use Rattle.std.proofs.Common.{◌≡◌, ℕ, ◌+◌, ◌-◌, ◌*◌, ◌/◌, ◌%◌, ◌≤◌, Bool, true, false, ◌&&◌, ◌||◌, not, nat_lt, nat_le, min, max, refl, sym, ap, ◌∙◌, arith, if◌then◌else◌}
use Rattle.std.specs.Prelude.{◌==◌}
use Rattle.std.proofs.lemmas.Bool.Decides.{nat_tests}
use Rattle.page_model.specs.declared.parts.At.{At}
use Rattle.page_model.specs.declared.parts.EdgeAt.{EdgeAt}
use Rattle.page_model.specs.declared.parts.PageParts.{PageParts}
use Rattle.page_model.specs.declared.parts.TrapParams.{TrapParams}
use Rattle.page_model.specs.declared.parts.Zone.{Zone}
use Rattle.lists.specs.Words.{any_below, gap, square, sum_below}
use Rattle.page_model.specs.Apart.{apart, falls}
use Rattle.page_model.specs.Deciding.{decides, decides_in}
use Rattle.page_model.specs.Density.{density, plate_counts, shut, shuts, spreads, weight}
use Rattle.page_model.specs.Edges.{IsEdge, across, d2, first, on_first_side, own, second}
use Rattle.page_model.specs.Limits.{half_sample, scale}
use Rattle.page_model.specs.Page.{ink_at, named_step, params_at, step_limit, tint}
use Rattle.page_model.specs.Tints.{full, full_density, new_by, new_in, scaled_in}
use Rattle.page_model.specs.Trapped.{trapped, trapped_in}
use Rattle.page_model.specs.Within.{black, black_sample, edge_slid, high, low, slid, within_in}
use Rattle.page_model.specs.Zones.{zone_of}
use Rattle.sheet_geometry.specs.declared.cuts.Cut.{Cut}
use Rattle.sheet_geometry.specs.Windows.{IsCut, edge_on_sheet, on_sheet, window}
use Rattle.sheet_geometry.proofs.Parts.{Lies, height-is, maxval-same, plates-same, tint-same, width-is, zone_at-is}
use Rattle.sheet_geometry.proofs.Zones.{zone_of-same}

-- ---- places

half-on : (a b : ℕ) → (2 * a + b) / 2 ≡ a + b / 2
half-on a b = omega arith

half_up-on : (a b : ℕ) → (2 * a + b + 1) / 2 ≡ a + (b + 1) / 2
half_up-on a b = omega arith

odd-on : (a b : ℕ) → ((2 * a + b) % 2 == 1) ≡ (b % 2 == 1)
odd-on a b = (let e : (2 * a + b) % 2 ≡ b % 2 = omega arith in ap (λ (n : ℕ). n == 1) e)

less-on : (a x b : ℕ) → nat_lt (2 * (a + x)) (2 * a + b) ≡ nat_lt (2 * x) b
less-on a x b = grind (arith, nat_tests)

gap-on : (a b x : ℕ) → gap (2 * a + b) (2 * (a + x)) ≡ gap b (2 * x)
gap-on a b x = omega arith

pub first-on : (cut : Cut) (e : EdgeAt) → first (edge_on_sheet cut e) ≡ on_sheet cut (first e)
first-on cut e = λ i. record { x = half-on cut.left e.x2 i; y = half-on cut.top e.y2 i }

pub second-on : (cut : Cut) (e : EdgeAt) → second (edge_on_sheet cut e) ≡ on_sheet cut (second e)
second-on cut e = λ i. record { x = half_up-on cut.left e.x2 i; y = half_up-on cut.top e.y2 i }

side-on : (cut : Cut) (p : At) (e : EdgeAt) → on_first_side (on_sheet cut p) (edge_on_sheet cut e) ≡ on_first_side p e
side-on cut p e = λ i. if odd-on cut.left e.x2 i then less-on cut.left p.x e.x2 i else less-on cut.top p.y e.y2 i

chosen-on : (cut : Cut) (b : Bool) (p q : At) → (if b then on_sheet cut p else on_sheet cut q) ≡ on_sheet cut (if b then p else q)
chosen-on cut true p q = refl
chosen-on cut false p q = refl

own-on : (cut : Cut) (p : At) (e : EdgeAt) → own (on_sheet cut p) (edge_on_sheet cut e) ≡ on_sheet cut (own p e)
own-on cut p e = (λ i. if side-on cut p e i then first-on cut e i else second-on cut e i) ∙ chosen-on cut (on_first_side p e) (first e) (second e)

across-on : (cut : Cut) (p : At) (e : EdgeAt) → across (on_sheet cut p) (edge_on_sheet cut e) ≡ on_sheet cut (across p e)
across-on cut p e = (λ i. if side-on cut p e i then second-on cut e i else first-on cut e i) ∙ chosen-on cut (on_first_side p e) (second e) (first e)

pub d2-on : (cut : Cut) (p : At) (e : EdgeAt) → d2 (on_sheet cut p) (edge_on_sheet cut e) ≡ d2 p e
d2-on cut p e = λ i. square (gap-on cut.left e.x2 p.x i) + square (gap-on cut.top e.y2 p.y i)

-- both samples of the edge are of the window
pub record LiesEdge (cut : Cut) (e : EdgeAt) : Type 0 where
  pub x : e.x2 + 2 ≤ 2 * cut.width
  pub y : e.y2 + 2 ≤ 2 * cut.height

pub lies_edge : (sheet : PageParts) (cut : Cut) (e : EdgeAt) → IsCut sheet cut → IsEdge (window sheet cut) e → LiesEdge cut e
lies_edge sheet cut e is edge = record {
  x = (let a = edge.across_page in let w = width-is sheet cut is in omega (arith, a, w));
  y = (let a = edge.down_page in let h = height-is sheet cut is in omega (arith, a, h));
}

pub sheet_edge : (sheet : PageParts) (cut : Cut) (e : EdgeAt) → IsCut sheet cut → IsEdge (window sheet cut) e → IsEdge sheet (edge_on_sheet cut e)
sheet_edge sheet cut e is edge =
    let here = lies_edge sheet cut e is edge in
    record {
      one_odd = (let odd = edge.one_odd in omega (arith, odd));
      across_page = (let a = here.x in let b = is.across in omega (arith, a, b));
      down_page = (let a = here.y in let b = is.down in omega (arith, a, b));
    }

pub first_lies : (cut : Cut) (e : EdgeAt) → LiesEdge cut e → Lies cut (first e)
first_lies cut e here = record { x = (let a = here.x in omega (arith, a)); y = (let a = here.y in omega (arith, a)) }

pub second_lies : (cut : Cut) (e : EdgeAt) → LiesEdge cut e → Lies cut (second e)
second_lies cut e here = record { x = (let a = here.x in omega (arith, a)); y = (let a = here.y in omega (arith, a)) }

chosen_lies : (cut : Cut) (b : Bool) (p q : At) → Lies cut p → Lies cut q → Lies cut (if b then p else q)
chosen_lies cut true p q hp hq = hp
chosen_lies cut false p q hp hq = hq

-- ---- the rule

-- whether an edge between two samples decides, by their zones
abbrev decides_at : PageParts → ℕ → ℕ → At → At → Bool
decides_at page a b p q = not (shut page p) && not (shut page q) && (params_at page a).enabled && (params_at page b).enabled && apart page a p q && apart page b p q

module _ (sheet : PageParts) (cut : Cut) (is : IsCut sheet cut) where
  params-same : (z : ℕ) → params_at (window sheet cut) z ≡ params_at sheet z
  params-same z = ap (λ (zone : Zone). zone.params) (zone_at-is sheet cut z)

  limit-same : (z c : ℕ) → step_limit (window sheet cut) z c ≡ step_limit sheet z c
  limit-same z c = ap (λ (zone : Zone). named_step zone.limits (ink_at sheet c).name zone.params.step_limit) (zone_at-is sheet cut z)

  density-same : (p : At) → Lies cut p → density (window sheet cut) p ≡ density sheet (on_sheet cut p)
  density-same p hp = λ i. sum_below (λ c. weight sheet c * tint-same sheet cut c p is hp i) (plates-same sheet cut i)

  shut-same : (p : At) → Lies cut p → shut (window sheet cut) p ≡ shut sheet (on_sheet cut p)
  shut-same p hp = λ i. any_below (λ c. shuts (ink_at sheet c).kind && nat_lt 0 (tint-same sheet cut c p is hp i)) (plates-same sheet cut i)

  falls-same : (z c : ℕ) (p q : At) → Lies cut p → Lies cut q → falls (window sheet cut) z p q c ≡ falls sheet z (on_sheet cut p) (on_sheet cut q) c
  falls-same z c p q hp hq = λ i.
      plate_counts sheet c && nat_lt (tint-same sheet cut c q is hq i) (tint-same sheet cut c p is hp i)
      && nat_le (limit-same z c i * maxval-same sheet cut i) ((tint-same sheet cut c p is hp i - tint-same sheet cut c q is hq i) * scale)

  apart-same : (z : ℕ) (p q : At) → Lies cut p → Lies cut q → apart (window sheet cut) z p q ≡ apart sheet z (on_sheet cut p) (on_sheet cut q)
  apart-same z p q hp hq = λ i.
      any_below (λ c. falls-same z c p q hp hq i) (plates-same sheet cut i) && any_below (λ c. falls-same z c q p hq hp i) (plates-same sheet cut i)

  decides_at-same : (a b : ℕ) (p q : At) → Lies cut p → Lies cut q → decides_at (window sheet cut) a b p q ≡ decides_at sheet a b (on_sheet cut p) (on_sheet cut q)
  decides_at-same a b p q hp hq = λ i.
      not (shut-same p hp i) && not (shut-same q hq i) && (params-same a i).enabled && (params-same b i).enabled && apart-same a p q hp hq i && apart-same b p q hp hq i

  pub decides-same : (e : EdgeAt) → LiesEdge cut e → decides (window sheet cut) e ≡ decides sheet (edge_on_sheet cut e)
  unfolding decides decides_in
  decides-same e here =
      let f : At = first e in
      let s : At = second e in
      let hf : Lies cut f = first_lies cut e here in
      let hs : Lies cut s = second_lies cut e here in
      decides_at-same (zone_of (window sheet cut) f) (zone_of (window sheet cut) s) f s hf hs
      ∙ (λ i. decides_at sheet (zone_of-same sheet cut f is hf i) (zone_of-same sheet cut s is hs i) (on_sheet cut f) (on_sheet cut s))
      ∙ sym (λ i. decides_at sheet (zone_of sheet (first-on cut e i)) (zone_of sheet (second-on cut e i)) (first-on cut e i) (second-on cut e i))

  first_density : (e : EdgeAt) → LiesEdge cut e → density (window sheet cut) (first e) ≡ density sheet (first (edge_on_sheet cut e))
  first_density e here = density-same (first e) (first_lies cut e here) ∙ sym (ap (density sheet) (first-on cut e))

  second_density : (e : EdgeAt) → LiesEdge cut e → density (window sheet cut) (second e) ≡ density sheet (second (edge_on_sheet cut e))
  second_density e here = density-same (second e) (second_lies cut e here) ∙ sym (ap (density sheet) (second-on cut e))

  low-same : (e : EdgeAt) → LiesEdge cut e → low (window sheet cut) e ≡ low sheet (edge_on_sheet cut e)
  low-same e here = λ i. min (first_density e here i) (second_density e here i)

  high-same : (e : EdgeAt) → LiesEdge cut e → high (window sheet cut) e ≡ high sheet (edge_on_sheet cut e)
  high-same e here = λ i. max (first_density e here i) (second_density e here i)

  slid-same : (params : TrapParams) (e : EdgeAt) → LiesEdge cut e → edge_slid (window sheet cut) params e ≡ edge_slid sheet params (edge_on_sheet cut e)
  slid-same params e here = λ i. slid params (low-same e here i) (high-same e here i)

  black_sample-same : (params : TrapParams) (p : At) → Lies cut p → black_sample (window sheet cut) params p ≡ black_sample sheet params (on_sheet cut p)
  black_sample-same params p hp = λ i.
      any_below (λ c. plate_counts sheet c && nat_le params.black_density_limit (ink_at sheet c).density && nat_lt 0 (tint-same sheet cut c p is hp i)
      && nat_le (params.black_color_limit * maxval-same sheet cut i) (tint-same sheet cut c p is hp i * scale)) (plates-same sheet cut i)

  black-same : (params : TrapParams) (e : EdgeAt) → LiesEdge cut e → black (window sheet cut) params e ≡ black sheet params (edge_on_sheet cut e)
  black-same params e here =
      let f : black_sample (window sheet cut) params (first e) ≡ black_sample sheet params (first (edge_on_sheet cut e)) = black_sample-same params (first e) (first_lies cut e here) ∙ sym (ap (black_sample sheet params) (first-on cut e)) in
      let s : black_sample (window sheet cut) params (second e) ≡ black_sample sheet params (second (edge_on_sheet cut e)) = black_sample-same params (second e) (second_lies cut e here) ∙ sym (ap (black_sample sheet params) (second-on cut e)) in
      (λ i. ((first_density e here i == high-same e here i) && f i) || ((second_density e here i == high-same e here i) && s i))

  black_of : (z : ℕ) (e : EdgeAt) → LiesEdge cut e → black (window sheet cut) (params_at (window sheet cut) z) e ≡ black sheet (params_at sheet z) (edge_on_sheet cut e)
  black_of z e here = black-same (params_at (window sheet cut) z) e here ∙ ap (λ (params : TrapParams). black sheet params (edge_on_sheet cut e)) (params-same z)

  slid_of : (z : ℕ) (e : EdgeAt) → LiesEdge cut e → edge_slid (window sheet cut) (params_at (window sheet cut) z) e ≡ edge_slid sheet (params_at sheet z) (edge_on_sheet cut e)
  slid_of z e here = slid-same (params_at (window sheet cut) z) e here ∙ ap (λ (params : TrapParams). edge_slid sheet params (edge_on_sheet cut e)) (params-same z)

  within_in-same : (z : ℕ) (p : At) (e : EdgeAt) → LiesEdge cut e → within_in (window sheet cut) z p e ≡ within_in sheet z (on_sheet cut p) (edge_on_sheet cut e)
  unfolding within_in
  within_in-same z p e here =
      let far : d2 p e ≡ d2 (on_sheet cut p) (edge_on_sheet cut e) = sym (d2-on cut p e) in
      (λ i. nat_le (far i * square (half_sample * (if slid_of z e here i then 2 else 1)))
      (square ((params-same z i).trap_width * (if black_of z e here i then (params-same z i).black_width else scale) * sheet.resolution)))

  across_lies : (p : At) (e : EdgeAt) → LiesEdge cut e → Lies cut (across p e)
  across_lies p e here = chosen_lies cut (on_first_side p e) (second e) (first e) (second_lies cut e here) (first_lies cut e here)

  own_lies : (p : At) (e : EdgeAt) → LiesEdge cut e → Lies cut (own p e)
  own_lies p e here = chosen_lies cut (on_first_side p e) (first e) (second e) (first_lies cut e here) (second_lies cut e here)

  trapped_in-same : (z : ℕ) (p : At) (e : EdgeAt) → Lies cut p → LiesEdge cut e → trapped_in (window sheet cut) z p e ≡ trapped_in sheet z (on_sheet cut p) (edge_on_sheet cut e)
  unfolding trapped_in
  trapped_in-same z p e hp here =
      let open_side : apart (window sheet cut) z p (across p e) ≡ apart sheet z (on_sheet cut p) (across (on_sheet cut p) (edge_on_sheet cut e)) =
      apart-same z p (across p e) hp (across_lies p e here) ∙ sym (ap (apart sheet z (on_sheet cut p)) (across-on cut p e)) in
      let there : density (window sheet cut) (across p e) ≡ density sheet (across (on_sheet cut p) (edge_on_sheet cut e)) =
      density-same (across p e) (across_lies p e here) ∙ sym (ap (density sheet) (across-on cut p e)) in
      let near : density (window sheet cut) (own p e) ≡ density sheet (own (on_sheet cut p) (edge_on_sheet cut e)) =
      density-same (own p e) (own_lies p e here) ∙ sym (ap (density sheet) (own-on cut p e)) in
      (λ i. not (shut-same p hp i) && (params-same z i).enabled && within_in-same z p e here i && open_side i && (slid_of z e here i || nat_lt (there i) (near i)))

  full-same : (p : At) (e : EdgeAt) (c : ℕ) → Lies cut p → LiesEdge cut e → full (window sheet cut) p e c ≡ full sheet (on_sheet cut p) (edge_on_sheet cut e) c
  full-same p e c hp here =
      let there : tint (window sheet cut) c (across p e) ≡ tint sheet c (across (on_sheet cut p) (edge_on_sheet cut e)) =
      tint-same sheet cut c (across p e) is (across_lies p e here) ∙ sym (ap (tint sheet c) (across-on cut p e)) in
      (λ i. if spreads (ink_at sheet c).kind then max (tint-same sheet cut c p is hp i) (there i) else tint-same sheet cut c p is hp i)

  full_density-same : (p : At) (e : EdgeAt) → Lies cut p → LiesEdge cut e → full_density (window sheet cut) p e ≡ full_density sheet (on_sheet cut p) (edge_on_sheet cut e)
  full_density-same p e hp here = λ i. sum_below (λ c. weight sheet c * full-same p e c hp here i) (plates-same sheet cut i)

  scaled-same : (z : ℕ) (p : At) (e : EdgeAt) (c : ℕ) → Lies cut p → LiesEdge cut e → scaled_in (window sheet cut) z p e c ≡ scaled_in sheet z (on_sheet cut p) (edge_on_sheet cut e) c
  scaled-same z p e c hp here = λ i.
      (full-same p e c hp here i * (density-same p hp i * scale + (params-same z i).trap_color_scaling * (full_density-same p e hp here i - density-same p hp i))) / (full_density-same p e hp here i * scale)

  new_in-same : (z : ℕ) (p : At) (e : EdgeAt) (c : ℕ) → Lies cut p → LiesEdge cut e → new_in (window sheet cut) z p e c ≡ new_in sheet z (on_sheet cut p) (edge_on_sheet cut e) c
  unfolding new_in
  new_in-same z p e c hp here = λ i.
      if trapped_in-same z p e hp here i && spreads (ink_at sheet c).kind then scaled-same z p e c hp here i else tint-same sheet cut c p is hp i

  pub trapped-same : (p : At) (e : EdgeAt) → Lies cut p → LiesEdge cut e → trapped (window sheet cut) p e ≡ trapped sheet (on_sheet cut p) (edge_on_sheet cut e)
  trapped-same p e hp here = trapped_in-same (zone_of (window sheet cut) p) p e hp here ∙ ap (λ (z : ℕ). trapped_in sheet z (on_sheet cut p) (edge_on_sheet cut e)) (zone_of-same sheet cut p is hp)

  pub new_by-same : (p : At) (e : EdgeAt) (c : ℕ) → Lies cut p → LiesEdge cut e → new_by (window sheet cut) p e c ≡ new_by sheet (on_sheet cut p) (edge_on_sheet cut e) c
  new_by-same p e c hp here = new_in-same (zone_of (window sheet cut) p) p e c hp here ∙ ap (λ (z : ℕ). new_in sheet z (on_sheet cut p) (edge_on_sheet cut e) c) (zone_of-same sheet cut p is hp)
