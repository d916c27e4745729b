-- The parameters after a `settrapparams` dictionary.
use Rattle.std.specs.Prelude.{ℕ, Bool, List, fold, Option, None, Result}
use Rattle.std.specs.Result.{result_unwrap_or}
use Rattle.ps_tokens.specs.declared.parameters.Key.{Key}
use Rattle.ps_tokens.specs.declared.parameters.Key.TheVariants.{Enabled}
use Rattle.ps_tokens.specs.declared.faults.JobFault.{JobFault}
use Rattle.ps_tokens.specs.declared.object.Object.{Object}
use Rattle.page_model.specs.declared.parts.TrapParams.{TrapParams}
use Rattle.ps_tokens.specs.declared.entry_errors.EntryError.{EntryError}
use Rattle.ps_tokens.specs.EntryErrors.{error_of, earlier, unless}
use Rattle.job_parts.specs.Fields.{number_keys, number_at, params_by}
use Rattle.job_parts.specs.Settings.{number_after, boolean_after}

-- what a number is after the dictionary, or its error
abbrev pub number_set : TrapParams → List Object → ℕ → Key → Result ℕ EntryError
number_set now objects dict key = number_after objects dict key (number_at key now)

-- whether zones are enabled after the dictionary, or the error
abbrev pub enabled_set : TrapParams → List Object → ℕ → Result Bool EntryError
enabled_set now objects dict = boolean_after objects dict Enabled now.enabled

-- of these keys' faulty entries the one that stands first
abbrev pub first_error : (Key → Result ℕ EntryError) → List Key → Option EntryError
first_error set = fold (λ first key. earlier first (error_of (set key))) None

-- of all parameters' faulty entries the one that stands first
abbrev pub first_error_of : TrapParams → List Object → ℕ → Option EntryError
first_error_of now objects dict =
    earlier (first_error (number_set now objects dict) number_keys)
    (error_of (enabled_set now objects dict))

-- each parameter that is named, replaced; the others as they were
abbrev pub params_set : TrapParams → List Object → ℕ → TrapParams
params_set now objects dict =
    params_by (λ key. result_unwrap_or (number_set now objects dict key) (number_at key now))
    (result_unwrap_or (enabled_set now objects dict) now.enabled)

-- the parameters after a dictionary, or the fault of the faulty entry whose key stands first
abbrev pub params_after : TrapParams → List Object → ℕ → Result TrapParams JobFault
params_after now objects dict =
    unless (first_error_of now objects dict) (params_set now objects dict)
