-- any_lacks: whether some need of a piece is not done.
use Rattle.std.proofs.lemmas.Grind.{common_steps}
use Rattle.std.proofs.Common.{arith}
use Rattle.band_core.proofs.LookLemmas.{lacks_is, lacks_next, same_count, same_need}
use Rattle.band_core.proofs.looks.any_lacks.Goals as goal

pub loop-k-preserved : goal.loop-k-preserved
loop-k-preserved c =
    let layout = c.args.layout.now in let n = c.need_at-need.result in let lesser = c.need_at-need.ensures.lesser in let piece = c.requires.piece in
    let need = same_need layout c.bands-bands.result.now c.args.piece n c.loop-k.k c.bands-bands.ensures.value c.need_at-need.ensures.need c.need_at-need.ensures.order in
    let next = lacks_next layout c.args.states.now c.args.piece c.loop-k.k n c.loop-k.any c.is_done-waits.result c.is_done-waits.ensures (omega (arith, lesser, piece)) need.0 need.1 c.loop-k.invariant.some c.loop-k.invariant.all in record {
      end = same_count layout c.bands-bands.result.now c.args.piece c.need_count-k-end.result c.bands-bands.ensures.value c.need_count-k-end.ensures.value;
      some = next.0;
      all = next.1;
    }

pub returns : goal.returns
returns c = lacks_is c.args.layout.now c.args.states.now c.args.piece c.loop-k.k c.loop-k.any c.bands-bands.ensures.valid c.requires.piece (omega (arith, c.loop-k-test.false, c.loop-k.auto.k-end, c.loop-k.invariant.end)) c.loop-k.invariant.some c.loop-k.invariant.all

pub loop-k-init : goal.loop-k-init
loop-k-init c = grind (arith, common_steps)
