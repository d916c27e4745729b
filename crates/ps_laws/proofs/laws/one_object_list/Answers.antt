-- one_object_list: tokens write out one list of objects at most.
use Rattle.ps_laws.proofs.Parsing.{one-list}
use Rattle.ps_laws.proofs.laws.one_object_list.Goals as goal

pub returns : goal.returns
returns c = one-list
