-- zones_are_those_in_force: after statements without a fault there is a zone for each
-- `settrapzone`, of the path, the parameters and the limits in force there.
use Rattle.job_laws.proofs.Following.{zones-in_force}
use Rattle.job_laws.proofs.laws.zones_are_those_in_force.Goals as goal

pub returns : goal.returns
returns c = zones-in_force
