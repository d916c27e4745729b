-- Goals of look_above that want a lemma by name.
use Rattle.std.proofs.Common.{◌∙◌, arith}
use Rattle.trap_c.proofs.PageLemmas.{found_more}
use Rattle.trap_c.proofs.fit.look_above.Goals as goal

pub loop-c-preserved : goal.loop-c-preserved
loop-c-preserved c = c.earlier-found.ensures ∙ found_more c.args.planes.now c.as_slice-all.result.now c.index-all-c.result c.loop-c.found c.above.result c.loop-c.c c.as_slice-all.ensures (omega arith) c.index-all-c.is c.above.ensures c.loop-c.invariant
