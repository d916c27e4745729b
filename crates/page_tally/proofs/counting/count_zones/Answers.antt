-- count_zones: counts the samples of row y in their zones, block by block.
use Rattle.std.proofs.lemmas.Grind.{common_steps}
use Rattle.std.proofs.Common.{arith}
use Rattle.page_tally.proofs.CountLemmas.{samples_row}
use Rattle.page_tally.proofs.counting.count_zones.Goals as goal

pub returns : goal.returns
returns c = samples_row c.args.page.now c.args.first c.args.y c.loop-x.x c.loop-x.counts (omega (arith, c.requires.zones.wide, c.loop-x-test.false, c.loop-x.invariant.inside)) c.loop-x.invariant.counts

pub count_run-requires-clause-alike : goal.count_run-requires-clause-alike
count_run-requires-clause-alike c = grind (arith, common_steps)
