-- Goals of tally_core that want a lemma by name.
use Rattle.trap_c.proofs.CoreCounts.{counted, workspaces}
use Rattle.trap_c.proofs.tally.tally_core.Goals as goal

pub trap_tile-requires-clause-workspace : goal.trap_tile-requires-clause-workspace
trap_tile-requires-clause-workspace c = workspaces c.args.page.now c.args.core.now c.in_ok-counts.counts c.plates-valid.ensures.valid c.requires c.in_ok-counts.ensures

pub returns-clause-counts : goal.returns-clause-counts
returns-clause-counts c = counted c.args.page.now c.args.core.now c.in_ok-counts.counts c.trap_tile.new.counts c.counts_of.result c.in_ok-counts.ensures c.in_ok-planes.ensures.counts c.counts_of.ensures
