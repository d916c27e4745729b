-- density_of_full: the neutral density of the full tints, summed term by term.
use Rattle.std.proofs.Common.{◌≡◌, ◌*◌, ℕ, arith, refl}
use Rattle.neutral_density.proofs.SumLemmas.{most_next, sum_next, term_most}
use Rattle.page_model.specs.Density.{weight}
use Rattle.page_model.specs.Page.{plates}
use Rattle.page_model.specs.Tints.{full}
use Rattle.trap_color.proofs.tints.density_of_full.Goals as goal

pub overflow_mul-total : goal.overflow_mul-total
overflow_mul-total c = omega (arith, term_most c.from.result c.from-in-loop-c.result (omega arith) (omega arith))

pub overflow_add-total : goal.overflow_add-total
overflow_add-total c = omega (arith, term_most c.from.result c.from-in-loop-c.result (omega arith) (omega arith))

pub loop-c-init : goal.loop-c-init
loop-c-init c = record { end = c.plates-c-end.ensures.value; sum = refl; bound = omega arith }

pub loop-c-preserved : goal.loop-c-preserved
loop-c-preserved c = record {
  end = c.loop-c.invariant.end;
  sum = sum_next (λ (k : ℕ). weight c.args.page.now k * full c.args.page.now c.args.p c.args.e k) c.loop-c.c _ _ c.loop-c.invariant.sum (cc);
  bound = most_next c.loop-c.c _ c.from.result c.from-in-loop-c.result c.loop-c.invariant.bound (omega arith) (omega arith);
}

pub returns-clause-value : goal.returns-clause-value
returns-clause-value c = (let all : c.loop-c.c ≡ plates c.args.page.now = omega (arith, c.loop-c-test.false, c.loop-c.invariant.end, c.loop-c.auto.c-end) in rw (← all) c.loop-c.invariant.sum)
