-- What a call that performs a statement answers.
use Rattle.std.specs.Prelude.{◌≡◌, ℕ, List, Option, Some, None, Result, Ok, Err}
use Rattle.page_model.specs.declared.parts.Limit.{Limit}
use Rattle.ps_tokens.specs.declared.faults.FaultKind.TheVariants.{WrongOperands}
use Rattle.ps_tokens.specs.declared.faults.JobFault.{JobFault}
use Rattle.ps_tokens.specs.declared.faults.JobError.{JobError}
use Rattle.ps_tokens.specs.declared.faults.JobError.TheVariants as errors
use Rattle.ps_tokens.specs.Tokens.{Fails}
use Rattle.job_parts.specs.declared.path.PathError.{PathError}
use Rattle.job_parts.specs.declared.path.PathError.TheVariants as paths
use Rattle.job_reader.specs.declared.state.State.{State}

-- a call leaves what is meant to be in force, or refuses as is meant
abbrev pub Performs : Result (Unit {0}) JobError → State → Result State JobFault → Type 0
Performs (Ok done) new meant = meant ≡ Ok new
Performs (Err common_error) new meant = Fails common_error meant

-- a call gives limits in place of those now, or none where these stay, or refuses as is meant
abbrev pub MayReplace : Result (Option (List Limit)) JobError → List Limit
    → Result (List Limit) JobFault → Type 0
MayReplace (Ok None) now meant = meant ≡ Ok now
MayReplace (Ok (Some limits)) now meant = meant ≡ Ok limits
MayReplace (Err common_error) now meant = Fails common_error meant

-- a path's error at its operator
abbrev pub error_at : PathError → ℕ → JobError
error_at (paths.Fault kind) at = errors.Fault (record { kind = kind; at = at })
error_at paths.OutOfMemory at = errors.OutOfMemory

-- the error of wrong operands at their operator
abbrev pub wrong_operands : ℕ → JobError
wrong_operands at = errors.Fault (record { kind = WrongOperands; at = at })
