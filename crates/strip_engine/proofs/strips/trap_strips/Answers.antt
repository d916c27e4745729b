-- trap_strips: traps the page, strip by strip, and counts its rows if that is asked.
use Rattle.std.proofs.Common.{◌≡◌, ℕ, arith, subst, ◌-◌, ◌*◌, ◌≤◌, ◌∙◌, ap, List, length, take, length-take}
use Rattle.std.proofs.lemmas.Grind.{common_steps}
use Rattle.page_model.specs.Page.{height}
use Rattle.strip_engine.specs.Taken.{IsTaken}
use Rattle.std.proofs.Math.Nat.{mul-le-mul}
use Rattle.strip_engine.proofs.strips.trap_strips.Goals as goal

part_fits : (count wide d n : ℕ) → count ≤ 64 → wide ≡ d → n ≡ 64 * d → count * wide ≤ n
part_fits count wide d n few same long = rw (same, long) (mul-le-mul few (omega arith))

part_long : (size n : ℕ) (codes : List ℕ) → size ≤ length codes → size ≡ n → length (take size codes) ≡ n
part_long size n codes fits same = (let part = length-take size codes in omega (arith, fits, part, same))

pub returns-clause-outcome : goal.returns-clause-outcome
returns-clause-outcome c = subst (λ (n : ℕ). IsTaken c.args.page.now n c.args.counted c.loop-first.outcome) (let all : c.loop-first.first ≡ height c.args.page.now = omega (arith, c.loop-first-test.false, c.loop-first.invariant.inside, c.height-height.ensures.value) in all) c.loop-first.invariant.outcome

pub trap_strip-requires-clause-codes : goal.trap_strip-requires-clause-codes
trap_strip-requires-clause-codes c = part_long _ _ _ (part_fits c.min-count.result _ _ _ (omega (arith, c.min-count.ensures)) (ap (λ (w : ℕ). 2 * w - 1) c.width.ensures.value) (c.loop-first.invariant.codes ∙ c.requires.codes)) (ap (λ (w : ℕ). c.min-count.result * (2 * w - 1)) c.width.ensures.value)

pub slice_bounds-codes-end : goal.slice_bounds-codes-end
slice_bounds-codes-end c = part_fits c.min-count.result _ _ _ (omega (arith, c.min-count.ensures)) (ap (λ (w : ℕ). 2 * w - 1) c.width.ensures.value) (c.loop-first.invariant.codes ∙ c.requires.codes)

pub loop-first-preserved : goal.loop-first-preserved
loop-first-preserved c = grind (arith, common_steps)

pub overflow_mul-codes : goal.overflow_mul-codes
overflow_mul-codes c = grind (arith, common_steps)

pub slice_bounds-codes-end-in-loop-first : goal.slice_bounds-codes-end-in-loop-first
slice_bounds-codes-end-in-loop-first c = grind (arith, common_steps)

pub trap_strip-requires-clause-outcome : goal.trap_strip-requires-clause-outcome
trap_strip-requires-clause-outcome c = grind (arith, common_steps)
