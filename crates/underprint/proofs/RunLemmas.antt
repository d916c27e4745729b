-- How many numbers come before the first that passes.
use Rattle.std.proofs.Common.{◌≡◌, ℕ, zero, suc, ◌<◌, ◌==◌, Bool, true, false, ◌&&◌, not, refl, subst, ◌∙◌, inl, inr, arith, if◌then◌else◌}
use Rattle.std.proofs.lemmas.Bool.{cases_eq}
use Rattle.std.proofs.lemmas.Bool.Decides.{nat_tests}
use Rattle.underprint.specs.Underprint.{run_before}

eq_is : (a b : ℕ) → a ≡ b → (a == b) ≡ true
eq_is a b e = grind (arith, nat_tests)

eq_not : (a b : ℕ) → (a ≡ b → ⊥) → (a == b) ≡ false
eq_not a b ne = grind (arith, nat_tests, ne)

chosen : (a b : Bool) (one other : ℕ) → a ≡ true → b ≡ false → (if a && not b then one else other) ≡ one
chosen true true one other p q = absurd (cc)
chosen true false one other p q = refl
chosen false b one other p q = absurd (cc)

ended : (a b : Bool) (one other : ℕ) → b ≡ true → (if a && not b then one else other) ≡ other
ended true true one other q = refl
ended true false one other q = absurd (cc)
ended false b one other q = refl

passed : (a b : Bool) (one other : ℕ) → a ≡ false → (if a && b then one else other) ≡ other
passed true b one other p = absurd (cc)
passed false b one other p = refl

-- none passes
pub run_none : (test : ℕ → Bool) (n : ℕ) → ((i : ℕ) → i < n → test i ≡ false) → run_before test n ≡ n
run_none test zero none = refl
run_none test (suc n) none = chosen (run_before test n == n) (test n) (suc n) (run_before test n)
    (eq_is (run_before test n) n (run_none test n (λ i l. none i (omega arith)))) (none n (omega arith))

-- k is the first that passes
pub run_at : (test : ℕ → Bool) (n k : ℕ) → k < n → test k ≡ true → ((i : ℕ) → i < k → test i ≡ false) → run_before test n ≡ k
run_at test zero k l pass none = absurd (omega arith)
run_at test (suc n) k l pass none = elim (cases_eq k n) [
  | inl e ↦ let here : test n ≡ true = subst (λ (i : ℕ). test i ≡ true) e pass in
      let before : run_before test n ≡ n = run_none test n (λ i less. none i (omega (arith, e))) in
      ended (run_before test n == n) (test n) (suc n) (run_before test n) here ∙ omega (arith, e, before)
  | inr ne ↦ let before : run_before test n ≡ k = run_at test n k (omega (arith, ne)) pass none in
      passed (run_before test n == n) (not (test n)) (suc n) (run_before test n) (eq_not (run_before test n) n (λ e. ne (omega (arith, e, before)))) ∙ before
]
