-- where_none_stands_is_fault: where the bytes spell tokens up to a place at which neither a gap nor
-- a token stands, that is the fault.
use Rattle.ps_laws.proofs.Reading.{breaks-fault}
use Rattle.ps_laws.proofs.laws.where_none_stands_is_fault.Goals as goal

pub returns : goal.returns
returns c = breaks-fault
