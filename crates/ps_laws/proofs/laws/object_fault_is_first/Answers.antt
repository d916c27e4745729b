-- object_fault_is_first: a fault of tokens is at the first after which no further ones could
-- complete the list; or the tokens end within a bracket, and then it is at the innermost that is
-- open.
use Rattle.ps_laws.proofs.Misplacing.{misplaced}
use Rattle.ps_laws.proofs.laws.object_fault_is_first.Goals as goal

pub returns : goal.returns
returns c = misplaced
