-- prefix_of_fault_is_spelled: the bytes before a fault spell tokens by themselves.
use Rattle.ps_laws.proofs.Reading.{before_fault-spelled}
use Rattle.ps_laws.proofs.laws.prefix_of_fault_is_spelled.Goals as goal

pub returns : goal.returns
returns c = before_fault-spelled
