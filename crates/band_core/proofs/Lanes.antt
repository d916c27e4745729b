-- Packed values are small, and each stands in its lane.
use Rattle.std.proofs.Common.{◌≡◌, ℕ, zero, suc, ◌+◌, ◌-◌, ◌*◌, ◌/◌, ◌%◌, ◌^◌, ◌<◌, ◌≤◌, List, [], ◌∷◌, length, drop, slice_index, slice_set, All, refl, subst, get_or-set_same, get_or-set_other, sym, ap, ◌∙◌, inl, inr, arith}
use Rattle.std.proofs.lemmas.Bool.{cases_eq}
use Rattle.std.proofs.lemmas.Nat.{pow-add}
use Rattle.std.proofs.Math.Nat.{pow-le-pow_right, mul-le-mul_left, add-mul-mod_self_left, add-mul-div_left, div-div-eq-div-mul, div-eq_of_lt, mod-eq_of_lt, mod-lt, one-le-pow, mul-suc, mul-le-mul_right, mul_comm}
use Rattle.std.proofs.lemmas.List.Elements.{All-head, All-tail}
use Rattle.band_core.specs.Packing.{IsBits, lanes, packed, lane}

pub few_bits : (bits n : ℕ) → IsBits bits → n ≤ lanes bits → bits * n ≤ 62
few_bits bits n (inl e) l = let m : n ≤ 7 = rw e at l in rw e (omega (arith, m))
few_bits bits n (inr (inl e)) l = let m : n ≤ 31 = rw e at l in rw e (omega (arith, m))
few_bits bits n (inr (inr (inl e))) l = let m : n ≤ 6 = rw e at l in rw e (omega (arith, m))
few_bits bits n (inr (inr (inr e))) l = let m : n ≤ 3 = rw e at l in rw e (omega (arith, m))

-- 2^bits times 2^(bits*n)
step : (bits n : ℕ) → 2 ^ (bits * (n + 1)) ≡ 2 ^ bits * 2 ^ (bits * n)
step bits n = ap (λ (k : ℕ). 2 ^ k) (let t : bits * (n + 1) ≡ bits + bits * n = grind arith in t) ∙ pow-add 2 bits (bits * n)

small_step : (a b p q : ℕ) → a < b → p < q → a + b * p < b * q
small_step a b p q l m = let t : b * (p + 1) ≤ b * q = mul-le-mul_left b (omega (arith, m)) in omega (arith, l, t, mul-suc b p, ap (λ (k : ℕ). b * k) (let e : p + 1 ≡ suc p = omega arith in e))

pub small : (bits : ℕ) (vs : List ℕ) → All (λ v. v < 2 ^ bits) vs → packed bits vs < 2 ^ (bits * length vs)
small bits [] h = one-le-pow (bits * 0) 2 (omega arith)
small bits (v ∷ vs) h =
    let t = small_step v (2 ^ bits) (packed bits vs) (2 ^ (bits * length vs)) (All-head (λ v. v < 2 ^ bits) v vs h) (small bits vs (All-tail (λ v. v < 2 ^ bits) v vs h)) in
    omega (arith, t, step bits (length vs), ap (λ (k : ℕ). 2 ^ (bits * k)) (let e : length vs + 1 ≡ suc (length vs) = omega arith in e))

grows : (bits p : ℕ) → p ≤ 2 ^ bits * p
grows bits p = let t : 1 * p ≤ 2 ^ bits * p = mul-le-mul_right p (one-le-pow bits 2 (omega arith)) in omega (arith, t)

pub drop_le : (bits i : ℕ) (vs : List ℕ) → packed bits (drop i vs) ≤ packed bits vs
drop_le bits zero vs = omega arith
drop_le bits (suc i) [] = omega arith
drop_le bits (suc i) (v ∷ vs) = omega (arith, drop_le bits i vs, grows bits (packed bits vs))

drop_more : (v i : ℕ) (vs : List ℕ) → drop (suc i) (v ∷ vs) ≡ drop i vs
drop_more v i vs = refl

pub step_at : (bits i : ℕ) (vs : List ℕ) → i < length vs → packed bits (drop i vs) ≡ slice_index vs i + 2 ^ bits * packed bits (drop (i + 1) vs)
step_at bits i [] l = absurd (omega (arith, l))
step_at bits zero (v ∷ vs) l = refl
step_at bits (suc i) (v ∷ vs) l = ap (packed bits) (drop_more v i vs) ∙ (step_at bits i vs (omega (arith, l)) ∙ ap (λ (k : ℕ). slice_index vs i + 2 ^ bits * packed bits (drop k (v ∷ vs))) (let e : suc (i + 1) ≡ suc i + 1 = omega arith in e))

pub under : (bits : ℕ) (vs : List ℕ) → IsBits bits → length vs ≤ lanes bits → All (λ v. v < 2 ^ bits) vs → packed bits vs < 2 ^ 62
under bits vs is few h =
    let t : 2 ^ (bits * length vs) ≤ 2 ^ 62 = pow-le-pow_right (omega arith) (few_bits bits (length vs) is few) in omega (arith, small bits vs h, t)

-- the next sum
pub workspace : (bits j : ℕ) (vs : List ℕ) → IsBits bits → length vs ≤ lanes bits → All (λ v. v < 2 ^ bits) vs → j < length vs → packed bits (drop (j + 1) vs) * 2 ^ bits + slice_index vs j < 2 ^ 62
workspace bits j vs is few h l = omega (arith, under bits vs is few h, drop_le bits j vs, step_at bits j vs l, mul_comm (packed bits (drop (j + 1) vs)) (2 ^ bits))

-- the sum so far times the base, and the next value, are small
pub next_small : (sum base j bits : ℕ) (vs : List ℕ) → IsBits bits → length vs ≤ lanes bits → All (λ v. v < 2 ^ bits) vs → 0 < j → j ≤ length vs → sum ≡ packed bits (drop j vs) → base ≡ 2 ^ bits
    → sum * base + slice_index vs (j - 1) < 2 ^ 62
next_small sum base j bits vs is few h some within so_far same =
    let e : j - 1 + 1 ≡ j = omega (arith, some) in
    let here : sum ≡ packed bits (drop (j - 1 + 1) vs) = so_far ∙ ap (λ (k : ℕ). packed bits (drop k vs)) (sym e) in
    let product : sum * base ≡ packed bits (drop (j - 1 + 1) vs) * 2 ^ bits = (λ i. here i * same i) in
    omega (arith, workspace bits (j - 1) vs is few h (omega (arith, some, within)), product)

-- the next sum is that of one more value
pub next_sum : (sum base j bits x : ℕ) (vs : List ℕ) → 0 < j → j ≤ length vs → sum ≡ packed bits (drop j vs) → base ≡ 2 ^ bits → x ≡ slice_index vs (j - 1) → sum * base + x ≡ packed bits (drop (j - 1) vs)
next_sum sum base j bits x vs some within so_far same is =
    let e : j - 1 + 1 ≡ j = omega (arith, some) in
    let here : sum ≡ packed bits (drop (j - 1 + 1) vs) = so_far ∙ ap (λ (k : ℕ). packed bits (drop k vs)) (sym e) in
    let product : sum * base ≡ packed bits (drop (j - 1 + 1) vs) * 2 ^ bits = (λ i. here i * same i) in
    omega (arith, is, product, step_at bits (j - 1) vs (omega (arith, some, within)), mul_comm (packed bits (drop (j - 1 + 1) vs)) (2 ^ bits))

pub lane_next : (bits n j : ℕ) → n / 2 ^ (bits * j) / 2 ^ bits ≡ n / 2 ^ (bits * (j + 1))
lane_next bits n j = div-div-eq-div-mul n (2 ^ (bits * j)) (2 ^ bits) ∙ ap (λ (k : ℕ). n / k) (mul_comm (2 ^ (bits * j)) (2 ^ bits) ∙ sym (step bits j))

first_lane : (bits v p : ℕ) → v < 2 ^ bits → (v + 2 ^ bits * p) % 2 ^ bits ≡ v
first_lane bits v p l = add-mul-mod_self_left v (2 ^ bits) p ∙ mod-eq_of_lt l

shifted : (bits v p : ℕ) → v < 2 ^ bits → (v + 2 ^ bits * p) / 2 ^ bits ≡ p
shifted bits v p l = let t = add-mul-div_left v p (one-le-pow bits 2 (omega arith)) in t ∙ omega (arith, div-eq_of_lt l)

later : (bits v p j : ℕ) → v < 2 ^ bits → lane bits (v + 2 ^ bits * p) (j + 1) ≡ lane bits p j
later bits v p j l =
    ap (λ (k : ℕ). k % 2 ^ bits) (ap (λ (k : ℕ). (v + 2 ^ bits * p) / k) (step bits j) ∙ (sym (div-div-eq-div-mul (v + 2 ^ bits * p) (2 ^ bits) (2 ^ (bits * j))) ∙ ap (λ (k : ℕ). k / 2 ^ (bits * j)) (shifted bits v p l)))

-- each packed value stands in its lane
pub lane_packed : (bits : ℕ) (vs : List ℕ) (j : ℕ) → All (λ v. v < 2 ^ bits) vs → j < length vs → lane bits (packed bits vs) j ≡ slice_index vs j
lane_packed bits [] j h l = absurd (omega (arith, l))
lane_packed bits (v ∷ vs) zero h l =
    let x : ℕ = v + 2 ^ bits * packed bits vs in
    ap (λ (k : ℕ). x / 2 ^ k % 2 ^ bits) (let e : bits * 0 ≡ 0 = omega arith in e) ∙ (ap (λ (k : ℕ). k % 2 ^ bits) (let e : x / 2 ^ 0 ≡ x = omega arith in e) ∙ first_lane bits v (packed bits vs) (All-head (λ v'. v' < 2 ^ bits) v vs h))
lane_packed bits (v ∷ vs) (suc j) h l =
    ap (lane bits (packed bits (v ∷ vs))) (let e : suc j ≡ j + 1 = omega arith in e)
    ∙ (later bits v (packed bits vs) j (All-head (λ v. v < 2 ^ bits) v vs h) ∙ lane_packed bits vs j (All-tail (λ v. v < 2 ^ bits) v vs h) (omega (arith, l)))

-- a lane fits in as many bits, and in more
pub lane_fits : (rest base bits width : ℕ) → base ≡ 2 ^ bits → bits ≤ width → rest % base < 2 ^ width
lane_fits rest base bits width e l =
    let t : rest % 2 ^ bits < 2 ^ bits = mod-lt rest (one-le-pow bits 2 (omega arith)) in let u : 2 ^ bits ≤ 2 ^ width = pow-le-pow_right (omega arith) l in
    omega (arith, t, u, ap (λ (k : ℕ). rest % k) e)

-- one more value is written
pub one_written : (xs : List ℕ) (bits n j x : ℕ) → j < length xs → x ≡ lane bits n j → ((h : ℕ) → h < j → slice_index xs h ≡ lane bits n h)
    → (h : ℕ) → h < j + 1 → slice_index (slice_set xs j x) h ≡ lane bits n h
one_written xs bits n j x inside is before h l = elim (cases_eq h j) [
  | inl e ↦ subst (λ (k : ℕ). slice_index (slice_set xs j x) k ≡ lane bits n k) (sym e) (get_or-set_same xs j x 0 inside ∙ is)
  | inr ne ↦ get_or-set_other xs j h x 0 ne ∙ before h (omega (arith, l, ne))
]

-- after so many lanes
pub lane_after : (bits n skip j : ℕ) → lane bits (n / 2 ^ (bits * skip)) j ≡ lane bits n (skip + j)
lane_after bits n skip j = ap (λ (k : ℕ). k % 2 ^ bits) (div-div-eq-div-mul n (2 ^ (bits * skip)) (2 ^ (bits * j)) ∙ ap (λ (k : ℕ). n / k) (sym (pow-add 2 (bits * skip) (bits * j)) ∙ ap (λ (k : ℕ). 2 ^ k) (let t : bits * skip + bits * j ≡ bits * (skip + j) = grind arith in t)))
