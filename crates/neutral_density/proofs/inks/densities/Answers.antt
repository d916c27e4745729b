-- densities: the neutral densities of two samples, summed together.
use Rattle.std.proofs.Common.{◌≡◌, ◌*◌, arith, ℕ, refl}
use Rattle.page_model.specs.Density.{weight}
use Rattle.page_model.specs.Page.{plates, tint}
use Rattle.neutral_density.proofs.SumLemmas.{most_next, sum_next, term_most}
use Rattle.neutral_density.proofs.inks.densities.Goals as goal

pub overflow_mul-one : goal.overflow_mul-one
overflow_mul-one c = omega (arith, term_most c.from-weight.result c.from.result (omega arith) (omega arith))

pub overflow_add-one : goal.overflow_add-one
overflow_add-one c = omega (arith, term_most c.from-weight.result c.from.result (omega arith) (omega arith))

pub overflow_mul-two : goal.overflow_mul-two
overflow_mul-two c = omega (arith, term_most c.from-weight.result c.from-in-loop-c.result (omega arith) (omega arith))

pub overflow_add-two : goal.overflow_add-two
overflow_add-two c = omega (arith, term_most c.from-weight.result c.from-in-loop-c.result (omega arith) (omega arith))

pub loop-c-preserved : goal.loop-c-preserved
loop-c-preserved c = record {
  end = c.loop-c.invariant.end;
  one = sum_next (λ (k : ℕ). weight c.args.page.now k * tint c.args.page.now k c.args.p) c.loop-c.c _ _ c.loop-c.invariant.one (cc);
  one_bound = most_next c.loop-c.c _ c.from-weight.result c.from.result c.loop-c.invariant.one_bound (omega arith) (omega arith);
  two = sum_next (λ (k : ℕ). weight c.args.page.now k * tint c.args.page.now k c.args.q) c.loop-c.c _ _ c.loop-c.invariant.two (cc);
  two_bound = most_next c.loop-c.c _ c.from-weight.result c.from-in-loop-c.result c.loop-c.invariant.two_bound (omega arith) (omega arith);
}

pub loop-c-init : goal.loop-c-init
loop-c-init c = record { end = c.plates-c-end.ensures.value; one = refl; one_bound = omega arith; two = refl; two_bound = omega arith }

pub returns-clause-p : goal.returns-clause-p
returns-clause-p c = (let all : c.loop-c.c ≡ plates c.args.page.now = omega (arith, c.loop-c-test.false, c.loop-c.invariant.end, c.loop-c.auto.c-end) in rw (← all) c.loop-c.invariant.one)

pub returns-clause-q : goal.returns-clause-q
returns-clause-q c = (let all : c.loop-c.c ≡ plates c.args.page.now = omega (arith, c.loop-c-test.false, c.loop-c.invariant.end, c.loop-c.auto.c-end) in rw (← all) c.loop-c.invariant.two)
