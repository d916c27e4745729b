-- The words that definitions are written in: sums, counts, tests and lists over the numbers
-- below another.
use Rattle.std.specs.Prelude.{◌≡◌, ℕ, zero, suc, ◌+◌, ◌-◌, ◌*◌, ◌<◌, ◌≤◌, Bool, true, false, ◌&&◌}
use Rattle.std.specs.Prelude.{◌||◌, nat_lt, max, List, [], ◌∷◌, ◌++◌, Option, Some, None}
use Rattle.std.specs.Prelude.{if◌then◌else◌}

-- f 0 + f 1 + .. + f (n - 1)
abbrev pub sum_below : (ℕ → ℕ) → ℕ → ℕ
sum_below f zero = 0
sum_below f (suc n) = sum_below f n + f n

-- whether some number below n passes the test
abbrev pub any_below : (ℕ → Bool) → ℕ → Bool
any_below test zero = false
any_below test (suc n) = any_below test n || test n

-- how many numbers below n pass the test
abbrev pub count_below : (ℕ → Bool) → ℕ → ℕ
count_below test zero = 0
count_below test (suc n) = count_below test n + (if test n then 1 else 0)

-- the greatest of f 0, f 1, .. f (n - 1), and 0 where there is none
abbrev pub greatest_below : (ℕ → ℕ) → ℕ → ℕ
greatest_below f zero = 0
greatest_below f (suc n) = max (greatest_below f n) (f n)

-- the list of f 0, f 1, .. f (n - 1)
abbrev pub list_below : {X : Type 0} → (ℕ → X) → ℕ → List X
list_below f zero = []
list_below f (suc n) = list_below f n ++ f n ∷ []

-- |a - b|
abbrev pub gap : ℕ → ℕ → ℕ
gap a b = (a - b) + (b - a)

-- a number times itself
abbrev pub square : ℕ → ℕ
square n = n * n

-- whether k has a lesser rank than the best so far
abbrev pub beats : (ℕ → ℕ) → ℕ → Option ℕ → Bool
beats rank k None = true
beats rank k (Some best) = nat_lt (rank k) (rank best)

-- of the numbers below n that pass the test the one of the least rank, and of these the first
abbrev pub first_least : (ℕ → ℕ) → (ℕ → Bool) → ℕ → Option ℕ
first_least rank test zero = None
first_least rank test (suc n) =
    let best = first_least rank test n in if test n && beats rank n best then Some n else best

-- k is below n and passes the test, none that passes has a lesser rank, and none before k has as
-- low a rank
pub record IsFirstLeast (rank : ℕ → ℕ) (test : ℕ → Bool) (n k : ℕ) : Type 0 where
  pub below : k < n
  pub passes : test k ≡ true
  pub least : (j : ℕ) → j < n → test j ≡ true → rank k ≤ rank j
  pub first : (j : ℕ) → j < k → test j ≡ true → rank k < rank j

-- the first of two answers that there is
abbrev pub or_else : {X : Type 0} → Option X → Option X → Option X
or_else None later = later
or_else (Some x) later = Some x

-- the first answer among those at 0, 1, .. below n
abbrev pub first_some : {X : Type 0} → (ℕ → Option X) → ℕ → Option X
first_some answer zero = None
first_some answer (suc n) = or_else (first_some answer n) (answer n)
