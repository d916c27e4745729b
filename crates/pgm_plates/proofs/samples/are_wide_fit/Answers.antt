-- What `are_wide_fit` has to show.
use Rattle.std.proofs.Common.{sym, subst, ℕ}
use Rattle.pgm_plates.specs.Readers.{Fit, wide_samples}
use Rattle.pgm_plates.proofs.Spelled.{wide_below}
use Rattle.pgm_plates.proofs.samples.are_wide_fit.Goals as goal

pub returns-then-maxval-eq-MOST_MAXVAL : goal.returns-then-maxval-eq-MOST_MAXVAL
returns-then-maxval-eq-MOST_MAXVAL c = λ is. subst (λ (m : ℕ). Fit m (wide_samples c.args.bytes.now)) (sym c.if-maxval-eq-MOST_MAXVAL.true) (wide_below c.args.bytes.now c.are_bytes.ensures)
