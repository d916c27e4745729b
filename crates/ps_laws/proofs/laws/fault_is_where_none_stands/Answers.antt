-- fault_is_where_none_stands: where there is a fault, the bytes before it spell tokens, and neither
-- a gap nor a token stands there.
use Rattle.ps_laws.proofs.Reading.{fault-breaks}
use Rattle.ps_laws.proofs.laws.fault_is_where_none_stands.Goals as goal

pub returns : goal.returns
returns c = fault-breaks
