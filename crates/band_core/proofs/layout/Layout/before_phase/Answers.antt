-- Layout::before_phase: the cells of the phases before one.
use Rattle.std.proofs.Common.{arith}
use Rattle.band_core.proofs.Places.{most_next}
use Rattle.band_core.proofs.layout.Layout.before_phase.Goals as goal

pub loop-q-preserved : goal.loop-q-preserved
loop-q-preserved c =
    let few = c.requires.phase in let turn = c.loop-q-test.true in let end = c.loop-q.auto.q-end in
    let next = most_next c.loop-q.q (omega (arith, few, turn, end)) in record {
      so_far = omega (arith, c.loop-q.invariant.so_far, c.cells_of_phase-start.ensures.value);
      bound = omega (arith, c.loop-q.invariant.bound, c.cells_of_phase-start.ensures.bound, next);
    }
