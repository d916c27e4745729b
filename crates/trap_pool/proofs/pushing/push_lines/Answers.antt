-- push_lines: pushes lines in order, up to the first that finds the queue full, and says how many
-- it pushed.
use Rattle.std.proofs.lemmas.Grind.{common_steps}
use Rattle.std.proofs.Common.{arith, slice_index_or, rules, sym, ap, subst}
use Rattle.trap_pool.specs.declared.rule.PassView.{PassView}
use Rattle.trap_pool.specs.Rule.{IsAbove}
use Rattle.trap_pool.proofs.Pushes.{above_next}
use Rattle.trap_pool.proofs.pushing.push_lines.Goals as goal

pub push_line-requires-clause-above : goal.push_line-requires-clause-above
push_line-requires-clause-above g c = subst (IsAbove (slice_index_or c.args.lines.now c.loop.next 0)) (sym (ap (λ (v : PassView). v.pushed) c.loop.invariant.1))
    (above_next c.args.lines.now c.loop.next 0 c.requires.ascends (search rules))

pub returns-in-Err-clause-full : goal.returns-in-Err-clause-full
returns-in-Err-clause-full g c = grind (arith, common_steps)

pub loop-preserved : goal.loop-preserved
loop-preserved g c = grind (arith, common_steps)

pub returns-in-Err-clause-count : goal.returns-in-Err-clause-count
returns-in-Err-clause-count g c = grind (arith, common_steps)

pub returns-clause-full : goal.returns-clause-full
returns-clause-full g c = grind (arith, common_steps)

pub returns-in-Err-clause-pushed : goal.returns-in-Err-clause-pushed
returns-in-Err-clause-pushed g c = grind (arith, common_steps)

pub returns-in-Err-clause-queue : goal.returns-in-Err-clause-queue
returns-in-Err-clause-queue g c = grind (arith, common_steps)
