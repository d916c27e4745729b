-- Page::reach2: the reach of the page in half-samples.
use Rattle.std.proofs.Common.{rules}
use Rattle.page_model.proofs.ReachLemmas.{greatest_more, greatest_within}
use Rattle.page_model.proofs.page.Page.reach2.Goals as goal

pub loop-z-preserved : goal.loop-z-preserved
loop-z-preserved c = record {
  end = search rules;
  reach = greatest_more _ c.loop-z.z _ _ _ c.loop-z.invariant.reach c.reach_at.ensures c.max-reach.ensures;
  bound = greatest_within _ _ _ _ _ c.loop-z.invariant.bound c.reach_at.ensures (search rules) c.max-reach.ensures;
}
