-- tally_window: goals that the search finds slowly.
use Rattle.std.proofs.Common.{rules}
use Rattle.trap_c.proofs.tally.tally_window.Goals as goal

pub returns-clause-counts : goal.returns-clause-counts
returns-clause-counts c = search rules
