-- The step of a window's corner: its multiples are places for one.
use Rattle.std.proofs.Common.{◌≡◌, ℕ, ◌*◌, ◌%◌, ◌<◌, ◌≤◌, ◌==◌, false, true, length, ap, ◌∙◌, arith}
use Rattle.std.specs.Prelude.{◌≢◌}
use Rattle.std.proofs.lemmas.Bool.Decides.{nat_tests}
use Rattle.std.proofs.lemmas.Grind.{common_steps}
use Rattle.std.proofs.Math.Nat.{mul_left_comm, mul-mod_left}
use Rattle.std.proofs.lemmas.Nat.Gcd.{dvd_of_mod-eq-zero, dvd_trans, mod-eq-zero_of_dvd}
use Rattle.job_reader.specs.declared.job.Job.{Job}
use Rattle.page_model.specs.Limits.{scale}
use Rattle.trap_c.specs.Infos.{IsCornerStep}
use Rattle.trap_c.specs.Places.{is_exact}

not_zero : (n : ℕ) → n ≢ 0 → (n == 0) ≡ false
not_zero n ne = first_of (grind (arith, nat_tests), grind (arith, common_steps))

-- a multiple of what r divides
times : (r n m : ℕ) → n % r ≡ 0 → (m * n) % r ≡ 0
times r n m e = mod-eq-zero_of_dvd r (dvd_trans r (dvd_of_mod-eq-zero r e) (dvd_of_mod-eq-zero n (mul-mod_left m n)))

exact_times : (r s m : ℕ) → (72 * scale * s) % r ≡ 0 → is_exact r (m * s) ≡ true
exact_times r s m e =
    let same : (72 * scale * (m * s)) % r ≡ 0 = ap (λ (n : ℕ). n % r) (mul_left_comm (72 * scale) m s) ∙ times r (72 * scale * s) m e in
    ap (λ (n : ℕ). n == 0) same

pub corner_step_is : (job : Job) (step : ℕ) → 1 < length job.zones → 1 ≤ step → (72 * scale * step) % job.resolution ≡ 0 → ((k : ℕ) → 1 ≤ k → k < step → (72 * scale * k) % job.resolution ≢ 0) → IsCornerStep job step
corner_step_is job step many some exact least = record {
  some = some;
  alone = λ few. absurd (omega (arith, many, few));
  exact = λ _ m. exact_times job.resolution step m exact;
  least = λ _ k one less. not_zero _ (least k one less);
}
