-- Goals of put_byte_core that want a lemma by name.
use Rattle.std.proofs.lemmas.Grind.{common_steps}
use Rattle.std.proofs.Common.{◌≡◌, ℕ, ◌+◌, ◌*◌, length, subst, arith}
use Rattle.trap_c.specs.Cores.{core_run, tint_run}
use Rattle.trap_c.proofs.Runs.{low_run, none_put, put, row_put, run_fits}
use Rattle.trap_c.proofs.cores.put_byte_core.Goals as goal

pub loop-y-init : goal.loop-y-init
loop-y-init c = none_put c.args.layout c.args.core.now c.args.tints.now c.args.samples.now c.args.c

pub loop-y-preserved : goal.loop-y-preserved
loop-y-preserved c =
    let layout = c.args.layout in
    let core = c.args.core.now in
    let row = c.core_row-row.result.now in
    let here : (c.args.c * layout.height + core.top + c.loop-y.y) * layout.step + core.left ≡ core_run layout core c.args.c c.loop-y.y = omega arith in
    row_put layout core c.args.tints.now c.args.samples.now c.loop-y.samples c.put_bytes_row.new.samples row c.args.c c.loop-y.y c.requires.layout c.requires.core (omega arith) (omega (arith, c.requires.inside)) c.core_row-row.ensures (subst (λ (n : ℕ). c.put_bytes_row.new.samples ≡ put n row c.loop-y.samples) here c.put_bytes_row.ensures) c.loop-y.invariant

pub put_bytes_row-requires-clause-inside : goal.put_bytes_row-requires-clause-inside
put_bytes_row-requires-clause-inside c = run_fits c.args.layout c.args.core.now c.args.c c.loop-y.y (length c.loop-y.samples) (length c.core_row-row.result.now) c.requires.layout c.requires.core (omega arith) (omega (arith, c.requires.inside)) c.core_row-row.ensures.long

pub put_bytes_row-requires-clause-narrow : goal.put_bytes_row-requires-clause-narrow
put_bytes_row-requires-clause-narrow c = low_run 255 c.args.tints.now c.core_row-row.result.now (tint_run c.args.layout c.args.core.now c.loop-y.y) c.args.core.now.width c.core_row-row.ensures c.requires.narrow

pub overflow_add-first-in-loop-y-2 : goal.overflow_add-first-in-loop-y-2
overflow_add-first-in-loop-y-2 c = grind (arith, common_steps)

pub overflow_mul-first-in-loop-y : goal.overflow_mul-first-in-loop-y
overflow_mul-first-in-loop-y c = grind (arith, common_steps)
