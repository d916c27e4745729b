-- run: how far ink goes on.
use Rattle.std.proofs.Common.{sym, ◌∙◌, arith}
use Rattle.underprint.specs.Underprint.{ends_at}
use Rattle.underprint.proofs.RunLemmas.{run_at, run_none}
use Rattle.underprint.proofs.thick.run.Goals as goal

pub returns-then-ends_at-clause-value : goal.returns-then-ends_at-clause-value
returns-then-ends_at-clause-value c = sym (run_at (ends_at c.args.page.now c.args.c c.args.p c.args.way) c.args.most c.loop-k.k (omega arith) (sym c.ends_at.ensures ∙ c.if-ends_at.true) c.loop-k.invariant)

pub returns-clause-value : goal.returns-clause-value
returns-clause-value c = sym (run_none (ends_at c.args.page.now c.args.c c.args.p c.args.way) c.args.most (λ i l. c.loop-k.invariant i (omega arith)))
