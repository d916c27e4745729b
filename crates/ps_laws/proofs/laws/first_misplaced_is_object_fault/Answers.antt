-- first_misplaced_is_object_fault: what tokens are that are out of place is their fault.
use Rattle.ps_laws.proofs.Misplacing.{misplaced-fault}
use Rattle.ps_laws.proofs.laws.first_misplaced_is_object_fault.Goals as goal

pub returns : goal.returns
returns c = misplaced-fault
