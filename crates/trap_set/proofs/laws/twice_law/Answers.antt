-- twice_law: a set applied twice gives the same as applied once.
use Rattle.trap_set.proofs.RunLemmas.{twice}
use Rattle.trap_set.proofs.laws.twice_law.Goals as goal

pub returns : goal.returns
returns c = λ runs. twice runs c.args.planes.now
