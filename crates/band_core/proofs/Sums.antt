-- Runs of numbers that stand one after the other, and which of them a place lies in.
use Rattle.std.proofs.Common.{◌≡◌, ℕ, zero, suc, ◌+◌, ◌-◌, ◌<◌, ◌≤◌, Bool, true, false, nat_le, refl, ap, ◌∙◌, arith, inl, inr}
use Rattle.std.proofs.lemmas.Bool.{cases_lt, cases_eq, le-leb, lt-leb}
use Rattle.lists.specs.Words.{sum_below, count_below}

pub sum_next : (f : ℕ → ℕ) (n : ℕ) → sum_below f (n + 1) ≡ sum_below f n + f n
sum_next f n = ap (sum_below f) (let e : n + 1 ≡ suc n = omega arith in e)

pub sum_grows : (f : ℕ → ℕ) (m d : ℕ) → sum_below f m ≤ sum_below f (m + d)
sum_grows f m zero = let e = ap (sum_below f) (let t : m + 0 ≡ m = omega arith in t) in omega (arith, e)
sum_grows f m (suc d) = let e = ap (sum_below f) (let t : m + suc d ≡ suc (m + d) = omega arith in t) in omega (arith, e, sum_grows f m d)

pub sum_at_most : (f : ℕ → ℕ) (m n : ℕ) → m ≤ n → sum_below f m ≤ sum_below f n
sum_at_most f m n l = let t = sum_grows f m (n - m) in let e = ap (sum_below f) (let s : m + (n - m) ≡ n = omega (arith, l) in s) in omega (arith, t, e)

-- so many of the first n runs end before a place of run i
abbrev ends : (ℕ → ℕ) → ℕ → ℕ → Bool
ends f j i = nat_le (sum_below f i + f i) j

before_here : (f : ℕ → ℕ) (i j n : ℕ) → sum_below f i ≤ j → n ≤ i → count_below (ends f j) n ≡ n
before_here f i j zero l m = refl
before_here f i j (suc n) l m =
    let t : ends f j n ≡ true = le-leb _ _ (let s = sum_at_most f (suc n) i m in omega (arith, s, l)) in
    rw t (omega (arith, before_here f i j n l (omega (arith, m))))

after_here : (f : ℕ → ℕ) (i j d : ℕ) → sum_below f i ≤ j → j < sum_below f i + f i → count_below (ends f j) (i + d) ≡ i
after_here f i j zero l m = ap (count_below (ends f j)) (let e : i + 0 ≡ i = omega arith in e) ∙ before_here f i j i l (omega arith)
after_here f i j (suc d) l m =
    let t : ends f j (i + d) ≡ false = lt-leb _ _ (let s = sum_at_most f i (i + d) (omega arith) in elim (cases_eq d 0) [
      | inl e ↦ (let k = ap (λ (z : ℕ). sum_below f z + f z) (let z : i + d ≡ i = omega (arith, e) in z) in omega (arith, k, m))
      | inr ne ↦ (let k = sum_at_most f (suc i) (i + d) (omega (arith, ne)) in omega (arith, k, m))
    ]) in
    ap (count_below (ends f j)) (let e : i + suc d ≡ suc (i + d) = omega arith in e) ∙ rw t (omega (arith, after_here f i j d l m))

pub run_of-is : (f : ℕ → ℕ) (i j n : ℕ) → i < n → sum_below f i ≤ j → j < sum_below f i + f i → count_below (ends f j) n ≡ i
run_of-is f i j n l from below = ap (count_below (ends f j)) (let e : n ≡ i + (n - i) = omega (arith, l) in e) ∙ after_here f i j (n - i) from below

-- each place lies in a run
pub run_of : (f : ℕ → ℕ) (j n : ℕ) → j < sum_below f n → (i : ℕ) × (i < n) × (sum_below f i ≤ j) × (j < sum_below f i + f i)
run_of f j zero l = absurd (omega (arith, l))
run_of f j (suc n) l = elim (cases_lt j (sum_below f n)) [
  | inl less ↦ (let t = run_of f j n less in (t.0, omega (arith, t.1), t.2, t.3))
  | inr more ↦ (n, omega arith, more, l)
]
