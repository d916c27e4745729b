-- run_length: how many samples the run has that begins at a sample.
use Rattle.std.proofs.Common.{◌∙◌, sym, arith}
use Rattle.trap_set.proofs.TextLemmas.{run_on_step}
use Rattle.trap_set.proofs.samples.run_length.Goals as goal

pub loop-i-preserved : goal.loop-i-preserved
loop-i-preserved c =
    let step = run_on_step c.args.old.now c.args.new.now c.args.y c.loop-i.i c.args.width c.loop-i-test.true (sym c.goes_on_at.ensures ∙ c.if-not-goes_on_at.false) in
    omega (arith, step, c.loop-i.invariant)
