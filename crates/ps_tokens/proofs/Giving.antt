-- What a call gives that answers as a definition does, unless memory runs out.
use Rattle.std.proofs.Common.{◌≡◌, Result, Ok, Err, IfOk}
use Rattle.ps_tokens.specs.declared.faults.JobFault.{JobFault}
use Rattle.ps_tokens.specs.declared.faults.JobError.{JobError}
use Rattle.ps_tokens.specs.Tokens.{Gives}

-- what holds of all that is meant holds of what is given
pub IfOk-given : {X : Type 0} (P : X → Type 0) (meant : Result X JobFault) (result : Result X JobError) → Gives result meant → ((x : X) → meant ≡ Ok x → P x) → IfOk result P
IfOk-given P meant (Ok x) given holds = holds x given
IfOk-given P meant (Err error) given holds = tt
