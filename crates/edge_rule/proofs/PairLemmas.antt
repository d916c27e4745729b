-- An edge decides where the two samples beside it may be trapped against each other; in one zone
-- both tests are one.
use Rattle.std.proofs.Common.{◌≡◌, ℕ, zero, suc, ◌+◌, ◌-◌, ◌*◌, ◌<◌, ◌≤◌, Bool, true, false, ◌&&◌, ◌||◌, not, nat_le, nat_lt, refl, sym, ◌∙◌, ap, arith, inl, inr, List, [], length, slice_index, Option, Some, None}
use Rattle.std.proofs.lemmas.Bool.{cases_eq}
use Rattle.std.proofs.lemmas.Bool.Decides.{nat_tests}
use Rattle.page_model.specs.declared.parts.At.{At}
use Rattle.page_model.specs.declared.parts.EdgeAt.{EdgeAt}
use Rattle.page_model.specs.declared.parts.PageParts.{PageParts}
use Rattle.page_model.specs.Apart.{apart}
use Rattle.page_model.specs.Conditions.{IsPage}
use Rattle.page_model.specs.Deciding.{decides, decides_in, lower_mark, right_mark}
use Rattle.page_model.specs.Density.{shut, shuts}
use Rattle.page_model.specs.Edges.{first, lower_edge, right_edge, second}
use Rattle.page_model.specs.Page.{height, ink_at, params_at, plates, tint, width}
use Rattle.page_model.specs.Planes.{plane_at}
use Rattle.lists.specs.Words.{any_below}
use Rattle.page_model.specs.Zones.{AreZones, zone_of}
use Rattle.page_model.proofs.PageLemmas.{plane_of}
use Rattle.page_model.proofs.ZoneLemmas.{zone_of-is}
use Rattle.edge_rule.specs.Pairs.{LieIn, falls_by, pair_decides}
use Rattle.edge_rule.proofs.Sides.{first-lower, first-right, second-lower, second-right}

twice : (a b c d : Bool) → (a && b && c && c && d && d) ≡ (c && (d && (a && b)))
twice true true true true = refl
twice true true true false = refl
twice true true false d = refl
twice true false true true = refl
twice true false true false = refl
twice true false false d = refl
twice false b true true = refl
twice false b true false = refl
twice false b false d = refl

in_one_zone : (page : PageParts) (z : ℕ) (e : EdgeAt) → decides_in page z z e ≡ pair_decides page z (first e) (second e)
unfolding decides_in
in_one_zone page z e = twice (not (shut page (first e))) (not (shut page (second e))) (params_at page z).enabled (apart page z (first e) (second e))

by_zones : (page : PageParts) (e : EdgeAt) → decides page e ≡ decides_in page (zone_of page (first e)) (zone_of page (second e)) e
unfolding decides
by_zones page e = refl

-- an edge between two samples of one zone
decides-plain : (page : PageParts) (z : ℕ) (e : EdgeAt) (p q : At) → first e ≡ p → second e ≡ q → zone_of page p ≡ z → zone_of page q ≡ z → decides page e ≡ pair_decides page z p q
decides-plain page z e p q ep eq zp zq =
    by_zones page e
    ∙ ap (λ (a : ℕ). decides_in page a (zone_of page (second e)) e) (ap (zone_of page) ep ∙ zp)
    ∙ ap (λ (b : ℕ). decides_in page z b e) (ap (zone_of page) eq ∙ zq)
    ∙ in_one_zone page z e
    ∙ ap (λ (s : At). pair_decides page z s (second e)) ep
    ∙ ap (λ (s : At). pair_decides page z p s) eq

passed : (a b : Bool) → a ≡ true → (a && b) ≡ b
passed a b e = rw e refl

within : (a b : ℕ) → a < b → nat_lt a b ≡ true
within a b l = grind (arith, nat_tests)

pub right-plain : (page : PageParts) (y x n z k : ℕ) → LieIn page y x n z → k < n → pair_decides page z (record { x = x + k; y = y }) (record { x = x + 1 + k; y = y }) ≡ right_mark page y (x + k)
right-plain page y x n z k lie l =
    let next : x + 1 + k ≡ x + k + 1 = omega arith in
    let after : x + k + 1 ≡ x + (k + 1) = omega arith in
    let there : zone_of page (record { x = x + k + 1; y = y }) ≡ z = ap (λ (m : ℕ). zone_of page (record { x = m; y = y })) after ∙ lie.here (k + 1) (omega (arith, l)) in
    let inside : x + k + 1 < width page = omega (arith, l, lie.inside) in
    let same = decides-plain page z (right_edge (x + k) y) (record { x = x + k; y = y }) (record { x = x + k + 1; y = y }) (first-right (x + k) y) (second-right (x + k) y) (lie.here k (omega (arith, l))) there in
    ap (λ (m : ℕ). pair_decides page z (record { x = x + k; y = y }) (record { x = m; y = y })) next ∙ sym (passed (nat_lt (x + k + 1) (width page)) (decides page (right_edge (x + k) y)) (within (x + k + 1) (width page) inside) ∙ same)

pub lower-plain : (page : PageParts) (y x n z k : ℕ) → LieIn page y x n z → k < n → pair_decides page z (record { x = x + k; y = y }) (record { x = x + k; y = y + 1 }) ≡ lower_mark page y (x + k)
lower-plain page y x n z k lie l =
    let same = decides-plain page z (lower_edge (x + k) y) (record { x = x + k; y = y }) (record { x = x + k; y = y + 1 }) (first-lower (x + k) y) (second-lower (x + k) y) (lie.here k (omega (arith, l))) (lie.below k l) in
    sym (passed (nat_lt (y + 1) (height page)) (decides page (lower_edge (x + k) y)) (within (y + 1) (height page) lie.above) ∙ same)

not_last : (y h n x : ℕ) (below : List ℕ) → y < h → (y + 1 ≡ h → below ≡ []) → 1 ≤ n → n ≤ length below - x → y + 1 < h
not_last y h n x below down last some low = elim (cases_eq (y + 1) h) [
  | inl e ↦ (let gone : length below ≡ 0 = ap length (last e) in omega (arith, gone, low, some))
  | inr ne ↦ omega (arith, down, ne)
]

-- samples that have the zone of x, as their right and lower neighbours have
pub lies : (page : PageParts) (y x n z : ℕ) (here below : List ℕ) → IsPage page → y < height page → AreZones page y here → (y + 1 < height page → AreZones page (y + 1) below) → (y + 1 ≡ height page → below ≡ []) → 1 ≤ n → x + n < length here → n ≤ length below - x → ((k : ℕ) → k ≤ n → slice_index here (x + k) ≡ slice_index here x) → ((k : ℕ) → k < n → slice_index below (x + k) ≡ slice_index here x) → z ≡ slice_index here x → LieIn page y x n z
lies page y x n z here below valid down zones lower last some inside low same same_below e =
    let wide = zones.wide in
    let across : x < width page = omega (arith, wide, inside) in
    let above = not_last y (height page) n x below down last some low in
    let first_zone : zone_of page (record { x = x; y = y }) ≡ z = sym (zones.each x across) ∙ sym e in
    record {
      known = rw first_zone at (zone_of-is page (record { x = x; y = y }) valid).known;
      inside = omega (arith, wide, inside);
      above = above;
      here = λ k l. sym (zones.each (x + k) (omega (arith, wide, inside, l))) ∙ same k l ∙ sym e;
      below = λ k l. sym ((lower above).each (x + k) (omega (arith, wide, inside, l))) ∙ same_below k l ∙ sym e;
    }

halves : (a b x y : Bool) → (a || b) ≡ false → (a ≡ false → x ≡ false) → (x || (b && y)) ≡ false
halves true b x y h k = cc
halves false true x y h k = cc
halves false false x y h k = rw (k refl) refl

none_both : (f g : ℕ → Bool) (n : ℕ) → any_below f n ≡ false → any_below (λ c. f c && g c) n ≡ false
none_both f g zero h = refl
none_both f g (suc n) h = halves (any_below f n) (f n) (any_below (λ c. f c && g c) n) (g n) h (none_both f g n)

-- where no ink shuts, no sample is shut
never-shut : (page : PageParts) (p : At) → any_below (λ c. shuts (ink_at page c).kind) (plates page) ≡ false → shut page p ≡ false
never-shut page p h = none_both (λ c. shuts (ink_at page c).kind) (λ c. nat_lt 0 (tint page c p)) (plates page) h

both_open : (v a b : Bool) → a ≡ false → b ≡ false → v ≡ (v && (not a && not b))
both_open true a b ea eb = rw (ea, eb) refl
both_open false a b ea eb = refl

pub all_open : (page : PageParts) (p q : At) (v : Bool) → any_below (λ c. shuts (ink_at page c).kind) (plates page) ≡ false → v ≡ (v && (not (shut page p) && not (shut page q)))
all_open page p q v none = both_open v (shut page p) (shut page q) (never-shut page p none) (never-shut page q none)

pub long_plane : (page : PageParts) (c : ℕ) → IsPage page → c < plates page → length (plane_at page.planes c).tints ≡ width page * height page
long_plane page c valid lc = (plane_of page c valid lc).full ∙ ap (λ (w : ℕ). w * (plane_at page.planes c).height) (valid.agree c lc).wide ∙ ap (λ (h : ℕ). width page * h) (valid.agree c lc).tall

pub falls-step : (step here there : ℕ) (o : Option ℕ) (f : Bool) → o ≡ Some step → f ≡ falls_by o here there → nat_le step (here - there) ≡ f
falls-step step here there o f e h = sym (h ∙ ap (λ (t : Option ℕ). falls_by t here there) e)

pub falls-never : (here there : ℕ) (o : Option ℕ) (b f : Bool) → o ≡ None → f ≡ falls_by o here there → b ≡ (b || f)
falls-never here there o b f e h = sym (ap (λ (v : Bool). b || v) (h ∙ ap (λ (t : Option ℕ). falls_by t here there) e) ∙ or_false b) where
  or_false : (v : Bool) → (v || false) ≡ v
  or_false true = refl
  or_false false = refl
