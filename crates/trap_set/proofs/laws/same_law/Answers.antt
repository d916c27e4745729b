-- same_law: planes that did not change have no runs.
use Rattle.trap_set.proofs.RunLemmas.{unchanged}
use Rattle.trap_set.proofs.laws.same_law.Goals as goal

pub returns : goal.returns
returns c = unchanged c.args.planes.now
