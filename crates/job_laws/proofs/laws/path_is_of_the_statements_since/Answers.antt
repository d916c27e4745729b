-- path_is_of_the_statements_since: after statements without a fault the path is what those draw
-- that stand since the last `newpath` or `settrapzone`.
use Rattle.job_laws.proofs.Following.{path-in_force}
use Rattle.job_laws.proofs.laws.path_is_of_the_statements_since.Goals as goal

pub returns : goal.returns
returns c = path-in_force
