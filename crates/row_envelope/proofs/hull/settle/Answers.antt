-- settle: drops the entries of the hull that arm i hides.
use Rattle.std.proofs.Common.{arith, slice_index, ◌-◌}
use Rattle.row_envelope.proofs.HullLemmas.{rising_at, arm_read, stopped, dropped, emptied}
use Rattle.row_envelope.proofs.hull.settle.Goals as goal

pub error-from-requires-clause-order : goal.error-from-requires-clause-order
error-from-requires-clause-order g c =
    rising_at c.args.arms.now _ _ _ _ c.requires.order (c.requires.hull.below _ (omega (arith, c.loop-left-test.true, c.loop-left.invariant.fewer))) c.requires.i c.index-arms-places.is c.index-arms-i.is

pub returns-then-from-starts-clause-settled : goal.returns-then-from-starts-clause-settled
returns-then-from-starts-clause-settled g c =
    let place = c.requires.hull.below (c.loop-left.left - 1) (omega (arith, c.loop-left-test.true, c.loop-left.invariant.fewer)) in
    stopped _ _ _ _ _ _ _ _ _ _ c.requires.hull c.loop-left-test.true c.loop-left.invariant.fewer (arm_read c.args.arms.now (slice_index c.args.places.now (c.loop-left.left - 1)) _ (omega (arith, place, c.requires.i)) c.index-arms-places.is) (arm_read _ _ _ c.requires.i c.index-arms-i.is) c.error-from.ensures.error c.if-from-starts.true c.loop-left.invariant.beyond

pub loop-left-preserved : goal.loop-left-preserved
loop-left-preserved g c =
    let place = c.requires.hull.below (c.loop-left.left - 1) (omega (arith, c.loop-left-test.true, c.loop-left.invariant.fewer)) in
    record {
      fewer = omega arith;
      cost = omega (arith, c.error-from.ensures.step);
      beyond = λ x2 _. dropped _ _ _ _ _ _ _ _ _ _ c.requires.hull c.loop-left-test.true c.loop-left.invariant.fewer (arm_read c.args.arms.now (slice_index c.args.places.now (c.loop-left.left - 1)) _ (omega (arith, place, c.requires.i)) c.index-arms-places.is) (arm_read _ _ _ c.requires.i c.index-arms-i.is) c.error-from.ensures.error c.if-from-starts.false c.loop-left.invariant.beyond x2;
    }

pub returns-clause-settled : goal.returns-clause-settled
returns-clause-settled g c = emptied _ _ _ _ _ _ _ c.requires.hull (omega (arith, c.loop-left-test.false)) c.loop-left.invariant.beyond
