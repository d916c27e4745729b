-- density: the neutral density of a sample.
use Rattle.std.proofs.Common.{◌≡◌, ◌*◌, arith, ℕ, refl}
use Rattle.page_model.specs.Density.{weight}
use Rattle.page_model.specs.Page.{plates, tint}
use Rattle.neutral_density.proofs.SumLemmas.{most_next, sum_next, term_most}
use Rattle.neutral_density.proofs.inks.density.Goals as goal

pub overflow_mul-total : goal.overflow_mul-total
overflow_mul-total c = omega (arith, term_most c.from.result c.from-in-loop-c.result (omega arith) (omega arith))

pub overflow_add-total : goal.overflow_add-total
overflow_add-total c = omega (arith, term_most c.from.result c.from-in-loop-c.result (omega arith) (omega arith))

pub loop-c-preserved : goal.loop-c-preserved
loop-c-preserved c = record {
  end = c.loop-c.invariant.end;
  sum = sum_next (λ (k : ℕ). weight c.args.page.now k * tint c.args.page.now k c.args.p) c.loop-c.c _ _ c.loop-c.invariant.sum (cc);
  bound = most_next c.loop-c.c _ c.from.result c.from-in-loop-c.result c.loop-c.invariant.bound (omega arith) (omega arith);
}

pub loop-c-init : goal.loop-c-init
loop-c-init c = record { end = c.plates-c-end.ensures.value; sum = refl; bound = omega arith }

pub returns-clause-value : goal.returns-clause-value
returns-clause-value c = (let all : c.loop-c.c ≡ plates c.args.page.now = omega (arith, c.loop-c-test.false, c.loop-c.invariant.end, c.loop-c.auto.c-end) in rw (← all) c.loop-c.invariant.sum)
