-- faulty_is_never_completed: after a token with a fault no further tokens complete the list, and
-- whatever they are, the fault is that one.
use Rattle.ps_tokens.proofs.Completing.{never_completed}
use Rattle.ps_tokens.proofs.laws.faulty_is_never_completed.Goals as goal

pub returns : goal.returns
returns c = never_completed
