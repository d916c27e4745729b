-- An edge by its samples on both sides of a third one, and the tests of a trap in the order of what they cost.
use Rattle.std.proofs.Common.{◌≡◌, ℕ, ◌*◌, ◌<◌, ◌≤◌, Bool, true, false, ◌&&◌, ◌||◌, ◌==◌, not, nat_le, nat_lt, min, max, length, refl, sym, arith, if◌then◌else◌}
use Rattle.std.proofs.lemmas.Bool.{false_from_ne_true, le-leb, leb-true, false≢true}
use Rattle.std.proofs.Math.Bool.{or_comm}
use Rattle.std.proofs.Math.Nat.{max_comm, min_comm, mul-le-mul_left}
use mathlib.Core.Bool.{beq}
use Rattle.page_model.specs.declared.parts.At.{At}
use Rattle.page_model.specs.declared.parts.EdgeAt.{EdgeAt}
use Rattle.page_model.specs.declared.parts.PageParts.{PageParts}
use Rattle.page_model.specs.declared.parts.TrapParams.{TrapParams}
use Rattle.page_model.specs.Apart.{apart}
use Rattle.page_model.specs.Conditions.{IsPage}
use Rattle.page_model.specs.Density.{density, shut}
use Rattle.page_model.specs.Edges.{across, d2, on_first_side, own}
use Rattle.page_model.specs.Page.{params_at}
use Rattle.page_model.specs.Parameters.{InRange}
use Rattle.page_model.specs.Trapped.{trapped_in}
use Rattle.page_model.specs.Within.{black, black_sample, edge_slid, slid, within_in}
use Rattle.page_model.proofs.ReachLemmas.{square_at_most}
use Rattle.lists.specs.Words.{square}
use Rattle.trap_color.specs.There.{is_trapped_there}

turned_slid : (c : Bool) (d : At → ℕ) (params : TrapParams) (x y : At) → slid params (min (d (if c then x else y)) (d (if c then y else x))) (max (d (if c then x else y)) (d (if c then y else x))) ≡ slid params (min (d x) (d y)) (max (d x) (d y))
turned_slid true d params x y = refl
turned_slid false d params x y = rw (min_comm (d y) (d x), max_comm (d y) (d x)) refl

pub slid_sides : (page : PageParts) (params : TrapParams) (p : At) (e : EdgeAt) → slid params (min (density page (own p e)) (density page (across p e))) (max (density page (own p e)) (density page (across p e))) ≡ edge_slid page params e
slid_sides page params p e = turned_slid (on_first_side p e) (density page) params _ _

turned_black : (c : Bool) (d : At → ℕ) (b : At → Bool) (x y : At) → (((d (if c then x else y) == max (d (if c then x else y)) (d (if c then y else x))) && b (if c then x else y)) || ((d (if c then y else x) == max (d (if c then x else y)) (d (if c then y else x))) && b (if c then y else x))) ≡ (((d x == max (d x) (d y)) && b x) || ((d y == max (d x) (d y)) && b y))
turned_black true d b x y = refl
turned_black false d b x y = rw (max_comm (d y) (d x)) (or_comm ((d y == max (d x) (d y)) && b y) ((d x == max (d x) (d y)) && b x))

pub black_sides : (page : PageParts) (params : TrapParams) (p : At) (e : EdgeAt) → (((density page (own p e) == max (density page (own p e)) (density page (across p e))) && black_sample page params (own p e)) || ((density page (across p e) == max (density page (own p e)) (density page (across p e))) && black_sample page params (across p e))) ≡ black page params e
black_sides page params p e = turned_black (on_first_side p e) (density page) (black_sample page params) _ _

-- what the widest trap does not reach, no other one does
widest : (tw bw res f : ℕ) → f ≤ max bw 10000 → tw * f * res ≤ tw * max bw 10000 * res
widest tw bw res f le =
    let one = mul-le-mul_left tw le in
    let two : res * (tw * f) ≤ res * (tw * max bw 10000) = mul-le-mul_left res one in
    omega (arith, two)

pub not_reached : (d tw bw res : ℕ) (black slid : Bool) → nat_le (d * square (3600000000 * 1)) (square (tw * max bw 10000 * res)) ≡ false → nat_le (d * square (3600000000 * (if slid then 2 else 1))) (square (tw * (if black then bw else 10000) * res)) ≡ false
not_reached d tw bw res black slid far = false_from_ne_true _ (λ t. go black slid (leb-true _ _ t)) where
  reached : (f g : ℕ) → 1 ≤ g → f ≤ max bw 10000 → d * square (3600000000 * g) ≤ square (tw * f * res) → ⊥
  reached f g some le near =
      let wide = square_at_most _ _ (widest tw bw res f le) in
      let units = square_at_most (3600000000 * 1) (3600000000 * g) (omega (arith, some)) in
      let one = mul-le-mul_left d units in
      false≢true (rw (← far) (le-leb _ _ (omega (arith, near, wide, one))))

  go : (black slid : Bool) → d * square (3600000000 * (if slid then 2 else 1)) ≤ square (tw * (if black then bw else 10000) * res) → ⊥
  go true true near = reached bw 2 (omega arith) (omega arith) near
  go true false near = reached bw 1 (omega arith) (omega arith) near
  go false true near = reached 10000 2 (omega arith) (omega arith) near
  go false false near = reached 10000 1 (omega arith) (omega arith) near

pub beyond : (page : PageParts) (z : ℕ) (p : At) (e : EdgeAt) → nat_le (d2 p e * square (3600000000 * 1)) (square ((params_at page z).trap_width * max (params_at page z).black_width 10000 * page.resolution)) ≡ false → within_in page z p e ≡ false
unfolding within_in
beyond page z p e far = (let params = params_at page z in not_reached (d2 p e) params.trap_width params.black_width page.resolution (black page params e) (edge_slid page params e) far)

-- by the plain width and by the black one, whichever the edge has
pub within_either : (page : PageParts) (z : ℕ) (p : At) (e : EdgeAt) (d res : ℕ) (slid plain wide : Bool) (params : TrapParams) → params ≡ params_at page z → d ≡ d2 p e → res ≡ page.resolution → slid ≡ edge_slid page (params_at page z) e → plain ≡ nat_le (d * square (3600000000 * (if slid then 2 else 1))) (square (params.trap_width * 10000 * res)) → wide ≡ nat_le (d * square (3600000000 * (if slid then 2 else 1))) (square (params.trap_width * params.black_width * res)) → within_in page z p e ≡ (if black page (params_at page z) e then wide else plain)
unfolding within_in
within_either page z p e d res slid plain wide params same ed er es one two = rw (one, two, same, ed, er, es) (go (black page (params_at page z) e)) where
  parts : ℕ
  parts = if edge_slid page (params_at page z) e then 2 else 1

  near : ℕ → Bool
  near factor = nat_le (d2 p e * square (3600000000 * parts)) (square ((params_at page z).trap_width * factor * page.resolution))

  go : (b : Bool) → near (if b then (params_at page z).black_width else 10000) ≡ (if b then near (params_at page z).black_width else near 10000)
  go true = refl
  go false = refl

pub same_either : (b x y : Bool) → beq x y ≡ true → x ≡ (if b then y else x)
same_either false x y e = refl
same_either true false false e = refl
same_either true false true e = e
same_either true true false e = sym e
same_either true true true e = refl

pub zone_params : (page : PageParts) (z : ℕ) → IsPage page → z < length page.zones → InRange (params_at page z)
zone_params page z valid l = (valid.parts.zones_in_range z _ l).params

five_tests : (a b c d e : Bool) → (a && b && c && d && e) ≡ (b && (e && (c && (d && a))))
five_tests false false c d e = refl
five_tests false true c d false = refl
five_tests false true false d true = refl
five_tests false true true false true = refl
five_tests false true true true true = refl
five_tests true false c d e = refl
five_tests true true false d false = refl
five_tests true true false d true = refl
five_tests true true true false false = refl
five_tests true true true false true = refl
five_tests true true true true false = refl
five_tests true true true true true = refl

pub trapped : (page : PageParts) (z : ℕ) (p : At) (e : EdgeAt) → trapped_in page z p e ≡ ((params_at page z).enabled && is_trapped_there page z p e)
unfolding trapped_in
trapped page z p e = five_tests (not (shut page p)) (params_at page z).enabled (within_in page z p e) (apart page z p (across p e)) (edge_slid page (params_at page z) e || nat_lt (density page (across p e)) (density page (own p e)))
