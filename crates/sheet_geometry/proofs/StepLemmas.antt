-- The least step is short where some step is.
use Rattle.std.proofs.Common.{◌≡◌, ◌≢◌, ℕ, suc, ◌*◌, ◌-◌, ◌%◌, ◌<◌, ◌≤◌, Bool, true, false, nat_le, nat_lt, not, ◌&&◌, inl, inr, refl, sym, ◌∙◌, ap, arith, length, Some, None}
use Rattle.std.specs.Prelude.{◌==◌, if◌then◌else◌}
use Rattle.std.proofs.lemmas.Bool.{cases_Bool, cases_lt, eq-eqb, eqb-true, false_from_ne_true, false≢true, le-leb, leb-true, lt-ltb}
use Rattle.lists.proofs.AnyBelow.{any_below-from}
use Rattle.lists.proofs.FirstSome.{some_is_none}
use Rattle.lists.proofs.Sums.{any_below-at}
use Rattle.page_model.specs.declared.parts.PageParts.{PageParts}
use Rattle.sheet_geometry.specs.declared.sheet_errors.SheetError.TheVariants.{Uncut}
use Rattle.sheet_geometry.specs.CommonErrors.{has_step, uncut}
use Rattle.sheet_geometry.specs.Plans.{IsStep}

found : (resolution step : ℕ) → 1 ≤ step → step ≤ 2048 → IsStep resolution step → has_step resolution ≡ true
unfolding has_step
found resolution step some short is =
    let one : suc (step - 1) ≡ step = omega (arith, some) in
    any_below-from (λ k. (720000 * suc k) % resolution == 0) 2048 (step - 1) (omega (arith, short, some)) (eq-eqb _ _ (ap (λ (n : ℕ). (720000 * n) % resolution) one ∙ is))

some_serves : (resolution : ℕ) → has_step resolution ≡ true → (k : ℕ) × (k < 2048) × (((720000 * suc k) % resolution == 0) ≡ true)
unfolding has_step
some_serves resolution has = any_below-at (λ k. (720000 * suc k) % resolution == 0) 2048 has

least_found : (resolution step : ℕ) → ((k : ℕ) → 1 ≤ k → k < step → (720000 * k) % resolution ≢ 0) → has_step resolution ≡ true → step ≤ 2048
least_found resolution step least has =
    let at = some_serves resolution has in
    elim (cases_lt (suc at.0) step) [
      | inl less ↦ absurd (least (suc at.0) (omega arith) less (eqb-true _ _ at.2))
      | inr more ↦ (let l = at.1 in omega (arith, more, l))
    ]

pub short-is : (resolution step : ℕ) → 1 ≤ step → IsStep resolution step → ((k : ℕ) → 1 ≤ k → k < step → (720000 * k) % resolution ≢ 0) → nat_le step 2048 ≡ has_step resolution
short-is resolution step some is least = elim (cases_Bool (has_step resolution)) [
  | inl t ↦ le-leb _ _ (least_found resolution step least t) ∙ sym t
  | inr f ↦ false_from_ne_true (nat_le step 2048) (λ t. false≢true (sym f ∙ found resolution step some (leb-true _ _ t) is)) ∙ sym f
]

many_has : (many has : Bool) → many ≡ true → (if many && not has then Some Uncut else None) ≡ None → has ≡ true
many_has true true e h = refl
many_has true false e h = absurd (some_is_none Uncut h)
many_has false has e h = absurd (false≢true e)

-- where a sheet with paths can be cut, its step is short
pub step_short : (sheet : PageParts) (step : ℕ) → uncut sheet ≡ None → 1 < length sheet.zones → ((k : ℕ) → 1 ≤ k → k < step → (720000 * k) % sheet.resolution ≢ 0) → step ≤ 2048
step_short sheet step h many least = least_found sheet.resolution step least (many_has (nat_lt 1 (length sheet.zones)) (has_step sheet.resolution) (lt-ltb _ _ many) h)
