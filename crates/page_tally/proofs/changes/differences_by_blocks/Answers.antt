-- How many tints differ, one block further.
use Rattle.std.proofs.Common.{arith}
use Rattle.page_tally.proofs.CountLemmas.{block_counted}
use Rattle.page_tally.proofs.changes.differences_by_blocks.Goals as goal

pub loop-from-preserved : goal.loop-from-preserved
loop-from-preserved c = record {
  inside = omega (arith, c.min-size.ensures, c.loop-from.invariant.inside);
  count = block_counted c.args.before.now c.args.after.now _ _ c.loop-from.from c.min-size.result _ _ c.part_of-other.ensures.len c.part_of-one.ensures.each c.part_of-other.ensures.each c.differences_here-count.ensures.count c.loop-from.invariant.count;
  few = omega (arith, c.differences_here-count.ensures.few, c.part_of-other.ensures.len, c.loop-from.invariant.few);
}
