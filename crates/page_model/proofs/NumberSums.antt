-- Sums over the numbers below a bound.
use Rattle.std.proofs.Common.{◌≡◌, ℕ, zero, suc, ◌+◌, ◌*◌, ◌-◌, ◌<◌, ◌≤◌, Bool, refl, sym, ◌∙◌, ap, arith, if◌then◌else◌}
use Rattle.lists.specs.Words.{count_below, sum_below}

-- 1 where a test passes
abbrev pub one_if : Bool → ℕ
one_if b = if b then 1 else 0

pub sum_same : (f g : ℕ → ℕ) (n : ℕ) → ((k : ℕ) → k < n → f k ≡ g k) → sum_below f n ≡ sum_below g n
sum_same f g zero h = refl
sum_same f g (suc n) h = omega (arith, sum_same f g n (λ k l. h k (omega (arith, l))), h n (omega arith))

pub sum_none : (n : ℕ) → sum_below (λ k. 0) n ≡ 0
sum_none zero = refl
sum_none (suc n) = omega (arith, sum_none n)

pub sum_plus : (f g : ℕ → ℕ) (n : ℕ) → sum_below (λ k. f k + g k) n ≡ sum_below f n + sum_below g n
sum_plus f g zero = refl
sum_plus f g (suc n) = omega (arith, sum_plus f g n)

pub sum_add : (f : ℕ → ℕ) (n m : ℕ) → sum_below f (n + m) ≡ sum_below f n + sum_below (λ i. f (n + i)) m
sum_add f n zero = (let e : n + 0 ≡ n = omega arith in rw e (omega arith))
sum_add f n (suc m) = (let e : n + suc m ≡ suc (n + m) = omega arith in rw e (omega (arith, sum_add f n m)))

-- a sum over numbers is one over rows of r of them
pub sum_rows : (f : ℕ → ℕ) (r w : ℕ) → sum_below f (w * r) ≡ sum_below (λ a. sum_below (λ b. f (a * r + b)) r) w
sum_rows f r zero = (let e : 0 * r ≡ 0 = omega arith in rw e refl)
sum_rows f r (suc w) = (let e : suc w * r ≡ w * r + r = omega arith in rw e (omega (arith, sum_add f (w * r) r, sum_rows f r w)))

pub sum_swap : (g : ℕ → ℕ → ℕ) (m n : ℕ) → sum_below (λ a. sum_below (g a) n) m ≡ sum_below (λ b. sum_below (λ a. g a b) m) n
sum_swap g zero n = sym (sum_none n)
sum_swap g (suc m) n = ap (λ (s : ℕ). s + sum_below (g m) n) (sum_swap g m n) ∙ sym (sum_plus (λ b. sum_below (λ a. g a b) m) (g m) n)

pub sum_pairs : (f : ℕ → ℕ) (n : ℕ) → sum_below f (2 * n) ≡ sum_below (λ k. f (2 * k) + f (2 * k + 1)) n
sum_pairs f zero = (let e : 2 * 0 ≡ 0 = omega arith in rw e refl)
sum_pairs f (suc n) = (let e : 2 * suc n ≡ suc (suc (2 * n)) = omega arith in
    let i : suc (2 * n) ≡ 2 * n + 1 = omega arith in
    let last : f (suc (2 * n)) ≡ f (2 * n + 1) = ap f i in
    rw e (omega (arith, sum_pairs f n, last)))

pub sum_one_more : (f : ℕ → ℕ) (n : ℕ) → 1 ≤ n → f (n - 1) ≡ 0 → sum_below f n ≡ sum_below f (n - 1)
sum_one_more f n some last = (let e : n ≡ suc (n - 1) = omega (arith, some) in ap (sum_below f) e ∙ omega (arith, last))

pub counted : (test : ℕ → Bool) (n : ℕ) → count_below test n ≡ sum_below (λ k. one_if (test k)) n
counted test zero = refl
counted test (suc n) = omega (arith, counted test n)
