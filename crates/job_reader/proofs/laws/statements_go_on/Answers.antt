-- statements_go_on: however a job's statements are cut in two before its first `showpage`, the
-- later ones go on with what the earlier ones left in force.
use Rattle.job_reader.proofs.InForce.{read_from-after}
use Rattle.job_reader.proofs.laws.statements_go_on.Goals as goal

pub returns : goal.returns
returns c = read_from-after
