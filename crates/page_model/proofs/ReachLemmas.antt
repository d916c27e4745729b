-- An edge that is farther than the reach of the page is not within, whatever the zone.
use Rattle.std.proofs.Common.{◌≡◌, ℕ, zero, suc, ◌+◌, ◌*◌, ◌/◌, ◌<◌, ◌≤◌, Bool, true, false, nat_le, max, ◌&&◌, add-one, inl, inr, refl, arith, if◌then◌else◌}
use Rattle.std.proofs.lemmas.Bool.{cases_lt, cases_eq, leb-true, false_from_ne_true}
use Rattle.std.proofs.Math.Nat.{mul-le-mul_left, lt-div-mul-add}
use Rattle.lists.specs.Words.{square, greatest_below}

pub at_most_greatest : (f : ℕ → ℕ) (n k : ℕ) → k < n → f k ≤ greatest_below f n
at_most_greatest f zero k l = omega (arith, l)
at_most_greatest f (suc n) k l = elim (cases_eq k n) [ inl e ↦ rw e (omega arith) | inr ne ↦ omega (arith, at_most_greatest f n k (omega (arith, ne))) ]

-- the greatest value so far, after one more value
pub greatest_more : (f : ℕ → ℕ) (n so_far value greatest : ℕ) → so_far ≡ greatest_below f n → value ≡ f n → greatest ≡ max value so_far → greatest ≡ greatest_below f (n + 1)
greatest_more f n so_far value greatest before same is = rw add-one (omega arith)

-- it stays small
pub greatest_within : (most here so_far value greatest : ℕ) → so_far ≤ most → value ≡ here → here ≤ most → greatest ≡ max value so_far → greatest ≤ most
greatest_within most here so_far value greatest before same near is = omega arith

pub square_at_most : (a b : ℕ) → a ≤ b → square a ≤ square b
square_at_most a b le = omega (arith, mul-le-mul_left a le, mul-le-mul_left b le)

pub square_less : (a b : ℕ) → a < b → square a < square b
square_less a b l = omega (arith, square_at_most (a + 1) b (omega arith))

pub root_at_most : (a b : ℕ) → square a ≤ square b → a ≤ b
root_at_most a b le = elim (cases_lt b a) [ inl l ↦ absurd (omega (arith, square_less b a l, le)) | inr h ↦ h ]

pub root_less : (a b : ℕ) → square a < square b → a < b
root_less a b l = elim (cases_lt a b) [ inl h ↦ h | inr le ↦ absurd (omega (arith, square_at_most b a le, l)) ]

-- a width a below r + 1 units of c, and a distance of at least r + 1
far_product : (d r c g a : ℕ) → square (r + 1) ≤ d → 1 ≤ g → a < (r + 1) * c → square a < d * square (c * g)
far_product d r c g a far some less =
    let wide = square_less a ((r + 1) * c) less in
    let units : c * 1 ≤ c * g = mul-le-mul_left c some in
    let bigger = square_at_most c (c * g) (omega (arith, units)) in
    let one = mul-le-mul_left (square c) far in
    let two = mul-le-mul_left d bigger in
    omega (arith, wide, one, two)

below_units : (a b c r : ℕ) → 0 < c → b / c ≤ r → a ≤ b → a < (r + 1) * c
below_units a b c r some most le =
    let over : b < b / c * c + c = lt-div-mul-add some in
    let up : c * (b / c) ≤ c * r = mul-le-mul_left c most in
    omega (arith, over, up)

widest : (tw bw res f : ℕ) → f ≤ max bw 10000 → tw * f * res ≤ tw * max bw 10000 * res
widest tw bw res f le =
    let one = mul-le-mul_left tw le in
    let two : res * (tw * f) ≤ res * (tw * max bw 10000) = mul-le-mul_left res one in
    omega (arith, two)

-- beyond the reach nothing is near, slid or not, black or not
pub not_near : (d tw bw res r : ℕ) (black slid : Bool) → square (r + 1) ≤ d → (tw * max bw 10000 * res) / 3600000000 ≤ r → nat_le (d * square (3600000000 * (if slid then 2 else 1))) (square (tw * (if black then bw else 10000) * res)) ≡ false
not_near d tw bw res r black slid far most = false_from_ne_true _ (λ p. go black slid (leb-true _ _ p)) where
  too_far : (f g : ℕ) → 1 ≤ g → f ≤ max bw 10000 → d * square (3600000000 * g) ≤ square (tw * f * res) → ⊥
  too_far f g some le near = omega (arith, near, far_product d r 3600000000 g (tw * f * res) far some (below_units (tw * f * res) (tw * max bw 10000 * res) 3600000000 r (omega arith) most (widest tw bw res f le)))

  go : (black slid : Bool) → d * square (3600000000 * (if slid then 2 else 1)) ≤ square (tw * (if black then bw else 10000) * res) → ⊥
  go true true near = too_far bw 2 (omega arith) (omega arith) near
  go true false near = too_far bw 1 (omega arith) (omega arith) near
  go false true near = too_far 10000 2 (omega arith) (omega arith) near
  go false false near = too_far 10000 1 (omega arith) (omega arith) near

-- five tests of which the second rules out the third
pub five_false : (a b c d e : Bool) → (b ≡ true → c ≡ false) → (a && b && c && d && e) ≡ false
five_false false b c d e h = refl
five_false true false c d e h = refl
five_false true true c d e h = rw (h refl) refl
