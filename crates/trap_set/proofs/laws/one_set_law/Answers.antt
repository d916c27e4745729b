-- one_set_law: a text has one set at most.
use Rattle.trap_set.proofs.SetLines.{one_set}
use Rattle.trap_set.proofs.laws.one_set_law.Goals as goal

pub returns : goal.returns
returns c = λ a b runs others one other. one_set c.args.text.now a b runs others one other
