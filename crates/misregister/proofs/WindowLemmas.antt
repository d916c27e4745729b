-- A window by the last place that passes.
use Rattle.std.proofs.Common.{◌≡◌, ℕ, zero, suc, ◌+◌, ◌<◌, ◌≤◌, Bool, true, ◌&&◌, nat_lt, min, refl, inl, inr, arith, subst}
use Rattle.std.proofs.lemmas.Bool.{cases_Bool, cases_eq, and_parts, and_from, leb-true, le-leb, ltb-true, lt-ltb, both_ways}
use Rattle.std.proofs.lemmas.Bool.Decides.{same_from_decides}
use Rattle.lists.specs.Words.{any_below}
use Rattle.lists.proofs.Sums.{any_below-at}
use Rattle.misregister.specs.Risk.{is_near}
use Rattle.misregister.specs.Sweep.{bared_until}
use Rattle.misregister.proofs.RiskLaws.{any_below-from}

-- the last place that passes, of those below n
last_that : (test : ℕ → Bool) (r n y : ℕ) → y < bared_until test r n → (k : ℕ) × (k < n) × (test k ≡ true) × (bared_until test r n ≡ k + r + 1)
last_that test r zero y l = let e : ⊥ = omega arith in absurd e
last_that test r (suc n) y l = elim (cases_Bool (test n)) [
  | inl t ↦ (n, omega arith, t, rw t refl)
  | inr e ↦ (let less = last_that test r n y (rw e at l) in (less.0, omega (arith, less.1), less.2, rw e less.3))
]

reaches : (test : ℕ → Bool) (r n k : ℕ) → k < n → test k ≡ true → k + r + 1 ≤ bared_until test r n
reaches test r zero k l t = let e : ⊥ = omega arith in absurd e
reaches test r (suc n) k l t = elim (cases_Bool (test n)) [
  | inl u ↦ rw u (omega arith)
  | inr e ↦ rw e (elim (cases_eq k n) [ inl same ↦ absurd (both_ways (test n) e (subst (λ (i : ℕ). test i ≡ true) same t)) | inr ne ↦ reaches test r n k (omega (arith, ne)) t ])
]

-- of all places up to the radius past y, or to the end, the last that passes tells whether one is near
pub window-is : (test : ℕ → Bool) (r n y m : ℕ) → m ≡ min (y + r + 1) n → nat_lt y (bared_until test r m) ≡ any_below (λ k. is_near r y k && test k) n
window-is test r n y m e = same_from_decides {P = y < bared_until test r m} _ _ (ltb-true _ _, lt-ltb _ _) (there, back) where
  there : any_below (λ k. is_near r y k && test k) n ≡ true → y < bared_until test r m
  there h =
      let w = any_below-at (λ k. is_near r y k && test k) n h in
      let parts = and_parts (is_near r y w.0) (test w.0) w.2 in
      let near = leb-true _ _ parts.0 in
      let far = reaches test r m w.0 (omega (arith, near, w.1)) parts.1 in
      omega (arith, far, near)

  back : y < bared_until test r m → any_below (λ k. is_near r y k && test k) n ≡ true
  back l =
      let w = last_that test r m y l in
      any_below-from (λ k. is_near r y k && test k) n w.0 (omega (arith, w.1)) (and_from _ _ (le-leb _ _ (omega (arith, w.1, w.3))) w.2)
