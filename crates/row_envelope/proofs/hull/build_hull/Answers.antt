-- build_hull: the hull of all arms, and how many entries it has.
use Rattle.std.proofs.lemmas.Grind.{common_steps}
use Rattle.std.proofs.Common.{arith, refl}
use Rattle.std.proofs.lemmas.List.{length-set}
use Rattle.row_envelope.proofs.HullLemmas.{joined}
use Rattle.row_envelope.proofs.hull.build_hull.Goals as goal

pub loop-i-preserved : goal.loop-i-preserved
loop-i-preserved g c =
    let few = c.loop-i.invariant.hull.few in
    let fewer = c.settle-joint.ensures.fewer in
    record {
      end = refl;
      places = grind (arith, length-set);
      starts = grind (arith, length-set);
      cost = omega (arith, c.settle-joint.ensures.cost, c.loop-i.invariant.cost);
      hull = joined _ _ _ _ _ _ _ _ c.loop-i.invariant.hull fewer (omega arith) (omega arith) c.settle-joint.ensures.settled;
    }

pub settle-joint-requires-clause-order : goal.settle-joint-requires-clause-order
settle-joint-requires-clause-order g c = grind (arith, common_steps)
