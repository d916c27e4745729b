-- The step limits after a `settrapparams` dictionary.
use Rattle.std.specs.Prelude.{ℕ, List, [], ◌∷◌, length, fold, map, Option, Some, None, Result, Ok}
use Rattle.std.specs.Prelude.{Err, slice_get, nat_le, codes, if◌then◌else◌}
use Rattle.std.specs.List.{flat_map}
use Rattle.ps_tokens.specs.declared.parameters.Key.TheVariants.{StepLimit}
use Rattle.ps_tokens.specs.declared.faults.FaultKind.{FaultKind}
use Rattle.ps_tokens.specs.declared.faults.FaultKind.TheVariants.{NotDictionary}
use Rattle.ps_tokens.specs.declared.faults.JobFault.{JobFault}
use Rattle.ps_tokens.specs.declared.entry_errors.EntryError.{EntryError}
use Rattle.ps_tokens.specs.declared.object.Body.{Body}
use Rattle.ps_tokens.specs.declared.object.Object.{Object}
use Rattle.ps_tokens.specs.Dictionaries.{Ascend, last_of, last_keys_of, name_of}
use Rattle.ps_tokens.specs.EntryErrors.{error_of, earlier, unless}
use Rattle.ps_tokens.specs.Objects.{is_dict}
use Rattle.ps_tokens.specs.Values.{by_body, value_at, entry_at}
use Rattle.page_model.specs.declared.parts.Limit.{Limit}
use Rattle.job_parts.specs.Settings.{number_of}
use Rattle.page_model.specs.Limits.{longest_name}

-- a step, where a number is one
abbrev pub step_given : Result ℕ FaultKind → Result (Option ℕ) FaultKind
step_given (Ok n) = Ok (Some n)
step_given (Err kind) = Err kind

-- the step that a value of StepLimit is
abbrev pub step_by : Body → Result (Option ℕ) FaultKind
step_by body = step_given (number_of StepLimit body)

-- the step that a dictionary names, if it names one
abbrev pub step_in : List Object → ℕ → Result (Option ℕ) EntryError
step_in objects dict =
    value_at (by_body step_by) objects None (last_of objects dict (codes "StepLimit"))

-- the step that the entry of a colorant's key names; its value has to be a dictionary
unfoldable pub step_of : List Object → ℕ → Result (Option ℕ) EntryError
step_of objects key = entry_at (λ dict at. step_in objects dict) objects None key

-- a step under a name that is not too long
abbrev pub limit_if_short : List ℕ → Result (Option ℕ) EntryError → List Limit
limit_if_short name (Err error) = []
limit_if_short name (Ok None) = []
limit_if_short name (Ok (Some step)) =
    if nat_le (length name) longest_name then record { name = name; step = step } ∷ [] else []

-- the limits of these keys, in their order
abbrev pub limits_of : List Object → List ℕ → List Limit
limits_of objects =
    flat_map (λ key. limit_if_short (name_of (slice_get objects key)) (step_of objects key))

-- of the faults of these keys the one that stands first
abbrev pub first_error : List Object → List ℕ → Option EntryError
first_error objects = fold (λ first key. earlier first (error_of (step_of objects key))) None

-- the limits that a value of ColorantZoneDetails names
abbrev pub limits_in : List Object → ℕ → Option Object → Result (List Limit) JobFault
limits_in objects place None = Ok []
limits_in objects place (Some object) =
    let keys = last_keys_of objects place in
    if is_dict object.body then unless (first_error objects keys) (limits_of objects keys)
    else Err (record { kind = NotDictionary; at = object.at })

-- the limits of the last ColorantZoneDetails entry, or those of now where there is none
abbrev pub limits_at : List Limit → List Object → Option ℕ → Result (List Limit) JobFault
limits_at now objects None = Ok now
limits_at now objects (Some place) = limits_in objects place (slice_get objects place)

-- the limits after a dictionary
abbrev pub limits_after : List Limit → List Object → ℕ → Result (List Limit) JobFault
limits_after now objects dict =
    limits_at now objects (last_of objects dict (codes "ColorantZoneDetails"))

-- the limits' names stand in ascending byte order, each once
abbrev pub AscendByName : List Limit → Type 0
AscendByName limits = Ascend (map (λ (l : Limit). l.name) limits)
