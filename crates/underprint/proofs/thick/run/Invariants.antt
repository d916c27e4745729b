use Rattle.std.proofs.Common.{◌≡◌, ◌<◌, ℕ, false}
use Rattle.underprint.specs.Underprint.{ends_at}
use Rattle.underprint.proofs.thick.run.Given as goal

abbrev pub invariant-loop-k : goal.invariant-loop-k
invariant-loop-k l = (i : ℕ) → i < l.k → ends_at l.page l.c l.p l.way i ≡ false
