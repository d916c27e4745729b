-- Counting numbers that pass a test, where an ascending list has just these.
use Rattle.std.proofs.Common.{◌≡◌, ℕ, zero, suc, ◌+◌, ◌-◌, ◌<◌, ◌≤◌, Bool, true, false, ap, ◌∙◌, arith, inl, inr}
use Rattle.std.specs.Prelude.{if◌then◌else◌}
use Rattle.std.proofs.lemmas.Bool.{cases_Bool, cases_eq, cases_order}
use Rattle.lists.specs.Words.{count_below}

count_below-none : (test : ℕ → Bool) (a d : ℕ) → ((n : ℕ) → a ≤ n → n < a + d → test n ≡ false) → count_below test (a + d) ≡ count_below test a
count_below-none test a zero none = ap (count_below test) (let e : a + 0 ≡ a = omega arith in e)
count_below-none test a (suc d) none =
    let e = ap (count_below test) (let t : a + suc d ≡ suc (a + d) = omega arith in t) in
    let here = ap (λ (b : Bool). count_below test (a + d) + (if b then 1 else 0)) (none (a + d) (omega arith) (omega arith)) in
    let rest = count_below-none test a d (λ n from below. none n from (omega (arith, below))) in
    omega (arith, e, here, rest)

none_to : (test : ℕ → Bool) (a b : ℕ) → a ≤ b → ((n : ℕ) → a ≤ n → n < b → test n ≡ false) → count_below test b ≡ count_below test a
none_to test a b l none = ap (count_below test) (let e : b ≡ a + (b - a) = omega (arith, l) in e) ∙ count_below-none test a (b - a) (λ n from below. none n from (omega (arith, below, l)))

count_below-hit : (test : ℕ → Bool) (n : ℕ) → test n ≡ true → count_below test (n + 1) ≡ count_below test n + 1
count_below-hit test n t =
    let e = ap (count_below test) (let s : n + 1 ≡ suc n = omega arith in s) in
    let here = ap (λ (b : Bool). count_below test n + (if b then 1 else 0)) t in omega (arith, e, here)

-- f 0, f 1, .. f (m - 1) ascend, pass, and are all that pass
module _ (test : ℕ → Bool) (f : ℕ → ℕ) (m : ℕ) (ascends : (k : ℕ) → k + 1 < m → f k < f (k + 1)) (pass : (k : ℕ) → k < m → test (f k) ≡ true) (all : (n : ℕ) → test n ≡ true → (k : ℕ) × (k < m) × (f k ≡ n)) where
  apart : (j d : ℕ) → j + d + 1 < m → f j < f (j + d + 1)
  apart j zero l = (let e = ap f (let t : j + 0 + 1 ≡ j + 1 = omega arith in t) in omega (arith, e, ascends j (omega (arith, l))))
  apart j (suc d) l =
      let e = ap f (let t : j + suc d + 1 ≡ (j + d + 1) + 1 = omega arith in t) in
      omega (arith, e, apart j d (omega (arith, l)), ascends (j + d + 1) (omega (arith, l)))

  later : (j k : ℕ) → j < k → k < m → f j < f k
  later j k l inside = (let e = ap f (let t : j + (k - j - 1) + 1 ≡ k = omega (arith, l) in t) in omega (arith, e, apart j (k - j - 1) (omega (arith, l, inside))))

  none_between : (k n : ℕ) → k + 1 < m → f k < n → n < f (k + 1) → test n ≡ false
  none_between k n inside above below = elim (cases_Bool (test n)) [
    | inr fails ↦ fails
    | inl passes ↦ (let j = all n passes in let e = j.2 in elim (cases_order j.0 k) [
      | inl same ↦ (let s = ap f same in absurd (omega (arith, s, e, above)))
      | inr (inl less) ↦ (let s = later j.0 k less (omega (arith, inside)) in absurd (omega (arith, s, e, above)))
      | inr (inr more) ↦ elim (cases_eq j.0 (k + 1)) [
        | inl next ↦ (let s = ap f next in absurd (omega (arith, s, e, below)))
        | inr beyond ↦ (let s = later (k + 1) j.0 (omega (arith, more, beyond)) j.1 in absurd (omega (arith, s, e, below)))
      ]
    ])
  ]

  none_first : (n : ℕ) → n < f 0 → test n ≡ false
  none_first n below = elim (cases_Bool (test n)) [
    | inr fails ↦ fails
    | inl passes ↦ (let j = all n passes in let e = j.2 in elim (cases_eq j.0 0) [
      | inl same ↦ (let s = ap f same in absurd (omega (arith, s, e, below)))
      | inr more ↦ (let s = later 0 j.0 (omega (arith, more)) j.1 in absurd (omega (arith, s, e, below)))
    ])
  ]

  none_after : (k n : ℕ) → k + 1 ≡ m → f k < n → test n ≡ false
  none_after k n last above = elim (cases_Bool (test n)) [
    | inr fails ↦ fails
    | inl passes ↦ (let j = all n passes in let e = j.2 in elim (cases_eq j.0 k) [
      | inl same ↦ (let s = ap f same in absurd (omega (arith, s, e, above)))
      | inr less ↦ (let s = later j.0 k (let i = j.1 in omega (arith, less, i, last)) (omega (arith, last)) in absurd (omega (arith, s, e, above)))
    ])
  ]

  -- before the k-th stand k of them
  pub count-at : (k : ℕ) → k < m → count_below test (f k) ≡ k
  count-at zero l = none_to test 0 (f 0) (omega arith) (λ n from below. none_first n below)
  count-at (suc k) l =
      let e = ap (λ (n : ℕ). count_below test (f n)) (let t : suc k ≡ k + 1 = omega arith in t) in
      let up = ascends k (omega (arith, l)) in
      let gap = none_to test (f k + 1) (f (k + 1)) (omega (arith, up)) (λ n from below. none_between k n (omega (arith, l)) (omega (arith, from)) below) in
      let hit = count_below-hit test (f k) (pass k (omega (arith, l))) in
      omega (arith, e, gap, hit, count-at k (omega (arith, l)))

  -- and there are m of them in all
  pub count-all : (n : ℕ) → ((k : ℕ) → k < m → f k < n) → count_below test n ≡ m
  count-all n inside = elim (cases_eq m 0) [
    | inl none ↦ (let t = none_to test 0 n (omega arith) (λ k from below. elim (cases_Bool (test k)) [ inr fails ↦ fails | inl passes ↦ (let j = all k passes in let i = j.1 in absurd (omega (arith, i, none))) ]) in omega (arith, t, none))
    | inr some ↦ (
        let k : ℕ = m - 1 in let last : k + 1 ≡ m = omega (arith, some) in let l : k < m = omega (arith, some) in
        let rest = none_to test (f k + 1) n (let t = inside k l in omega (arith, t)) (λ h from below. none_after k h last (omega (arith, from))) in
        omega (arith, rest, count_below-hit test (f k) (pass k l), count-at k l, last))
  ]

pub count-grows : (test : ℕ → Bool) (a d : ℕ) → count_below test a ≤ count_below test (a + d)
count-grows test a zero = let e = ap (count_below test) (let t : a + 0 ≡ a = omega arith in t) in omega (arith, e)
count-grows test a (suc d) = let e = ap (count_below test) (let t : a + suc d ≡ suc (a + d) = omega arith in t) in omega (arith, e, count-grows test a d)

-- fewer pass before a number that passes than before a greater one
pub count-less : (test : ℕ → Bool) (n m : ℕ) → test n ≡ true → n < m → count_below test n < count_below test m
count-less test n m t l =
    let hit = count_below-hit test n t in let up = count-grows test (n + 1) (m - (n + 1)) in
    let e = ap (count_below test) (let s : n + 1 + (m - (n + 1)) ≡ m = omega (arith, l) in s) in omega (arith, hit, up, e)

-- so numbers that pass are told apart by how many pass before them
pub count-same : (test : ℕ → Bool) (n m : ℕ) → test n ≡ true → test m ≡ true → count_below test n ≡ count_below test m → n ≡ m
count-same test n m a b e = elim (cases_order n m) [
  | inl same ↦ same
  | inr (inl less) ↦ (let s = count-less test n m a less in absurd (omega (arith, s, e)))
  | inr (inr more) ↦ (let s = count-less test m n b more in absurd (omega (arith, s, e)))
]
