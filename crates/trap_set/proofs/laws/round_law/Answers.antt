-- round_law: the set of what changed, applied to the planes as they were, gives the planes after
-- the change.
use Rattle.trap_set.proofs.RunLemmas.{round}
use Rattle.trap_set.proofs.laws.round_law.Goals as goal

pub returns : goal.returns
returns c = round c.args.old.now c.args.new.now c.requires
