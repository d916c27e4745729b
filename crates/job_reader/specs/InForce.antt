-- What is in force at a statement, stated by the statements that stand before it.
use Rattle.std.specs.Prelude.{◌≡◌, ◌++◌, All, map, ℕ, Bool, true, false, List, [], ◌∷◌, Option}
use Rattle.std.specs.Prelude.{Some, None, Result, Ok, Err, codes, if◌then◌else◌}
use Rattle.std.specs.List.{filter_map, last_or}
use Rattle.std.specs.Result.{result_unwrap_or}
use Rattle.page_model.specs.declared.parts.Ink.{Ink}
use Rattle.page_model.specs.declared.parts.Limit.{Limit}
use Rattle.page_model.specs.declared.parts.TrapParams.{TrapParams}
use Rattle.ps_tokens.specs.declared.faults.FaultKind.TheVariants.{UnknownOperator}
use Rattle.ps_tokens.specs.declared.faults.JobFault.{JobFault}
use Rattle.ps_tokens.specs.declared.parameters.Key.{Key}
use Rattle.ps_tokens.specs.declared.parameters.Key.TheVariants.{Enabled, Trapping}
use Rattle.ps_tokens.specs.declared.object.Object.{Object}
use Rattle.ps_tokens.specs.Dictionaries.{last_of}
use Rattle.ps_tokens.specs.Values.{by_body, value_at, place_of_value}
use Rattle.page_model.specs.Parameters.{usual_params}
use Rattle.job_parts.specs.Fields.{number_keys, number_at, params_by}
use Rattle.job_parts.specs.Limits.{limits_at}
use Rattle.ps_tokens.specs.Parameters.{name_of}
use Rattle.job_parts.specs.Settings.{number_of, boolean_of}
use Rattle.job_reader.specs.declared.operators.Operator.{Operator}
use Rattle.job_reader.specs.declared.operators.Operator.TheVariants.{SetPageDevice, SetTrapParams}
use Rattle.job_reader.specs.declared.operators.Operator.TheVariants.{NewPath, ClosePath, MoveTo}
use Rattle.job_reader.specs.declared.operators.Operator.TheVariants.{LineTo, RelativeMoveTo}
use Rattle.job_reader.specs.declared.operators.Operator.TheVariants.{RelativeLineTo, SetTrapZone}
use Rattle.job_reader.specs.declared.operators.Operator.TheVariants.{ShowPage}
use Rattle.job_reader.specs.declared.state.State.{State}
use Rattle.job_reader.specs.Calls.{Statement, is_showpage}
use Rattle.job_reader.specs.Device.{resolution_in, details_at, details_or}
use Rattle.job_reader.specs.Statements.{fault, state_after}

-- Statements that are performed.

-- what a statement leaves in force, if it does not end the job
abbrev pub after_one : List Object → Statement → Option Operator → State → Result State JobFault
after_one objects s None now = fault UnknownOperator s.call.at
after_one objects s (Some operator) now = state_after objects s.from s.place s.call.at operator now

-- what follows a statement without a fault
abbrev pub going_on : Result State JobFault → (State → Result State JobFault)
    → Result State JobFault
going_on (Ok now) rest = rest now
going_on (Err first) rest = Err first

-- what statements leave in force, one after the other, or the first fault of these
unfoldable pub after_all : List Object → State → List Statement → Result State JobFault
after_all objects now [] = Ok now
after_all objects now (s ∷ ss) =
    going_on (after_one objects s s.call.operator now) (λ next. after_all objects next ss)

-- whether a statement's operator passes a test
abbrev pub is_by : (Operator → Bool) → Option Operator → Bool
is_by test None = false
is_by test (Some operator) = test operator

-- none of these statements is `showpage`
abbrev pub NoneShows : List Statement → Type 0
NoneShows statements = All (λ (s : Statement). is_by is_showpage s.call.operator ≡ false) statements

-- Statements that name an entry.

-- whether an operator is `setpagedevice`
abbrev pub is_setpagedevice : Operator → Bool
is_setpagedevice SetPageDevice = true
is_setpagedevice SetTrapParams = false
is_setpagedevice NewPath = false
is_setpagedevice ClosePath = false
is_setpagedevice MoveTo = false
is_setpagedevice LineTo = false
is_setpagedevice RelativeMoveTo = false
is_setpagedevice RelativeLineTo = false
is_setpagedevice SetTrapZone = false
is_setpagedevice ShowPage = false

-- whether an operator is `settrapparams`
abbrev pub is_settrapparams : Operator → Bool
is_settrapparams SetPageDevice = false
is_settrapparams SetTrapParams = true
is_settrapparams NewPath = false
is_settrapparams ClosePath = false
is_settrapparams MoveTo = false
is_settrapparams LineTo = false
is_settrapparams RelativeMoveTo = false
is_settrapparams RelativeLineTo = false
is_settrapparams SetTrapZone = false
is_settrapparams ShowPage = false

-- where the value of a dictionary's last entry of a key stands; an entry without a value names
-- nothing
abbrev pub value_of : List ℕ → List Object → ℕ → Option ℕ
value_of key objects dict = place_of_value objects (last_of objects dict key)

-- where the value stands that a statement names, if it is one of these operators and names it
abbrev pub named_by : (Operator → Bool) → (ℕ → Option ℕ) → Statement → Option ℕ
named_by test look s = if is_by test s.call.operator then look s.from else None

-- where the value stands that the last of these statements names which names it
abbrev pub last_naming : (Operator → Bool) → (ℕ → Option ℕ) → List Statement → Option ℕ
last_naming test look earlier = last_or None (filter_map (named_by test look) earlier)

-- What is in force after statements.

-- the resolution that the last `setpagedevice` with HWResolution names, else 0
abbrev pub resolution_in_force : List Object → List Statement → ℕ
resolution_in_force objects earlier =
    let named = last_naming is_setpagedevice (value_of (codes "HWResolution") objects) earlier in
    result_unwrap_or (value_at (resolution_in objects) objects 0 named) 0

-- the boolean that the last `setpagedevice` with Trapping names, else true
abbrev pub trapping_in_force : List Object → List Statement → Bool
trapping_in_force objects earlier =
    let named = last_naming is_setpagedevice (value_of (name_of Trapping) objects) earlier in
    result_unwrap_or (value_at (by_body (boolean_of Trapping)) objects true named) true

-- the inks that the last `setpagedevice` with TrappingDetails names, else none
abbrev pub details_in_force : List Object → List Statement → List Ink
details_in_force objects earlier =
    let look = λ (dict : ℕ). last_of objects dict (codes "TrappingDetails") in
    details_or (details_at objects (last_naming is_setpagedevice look earlier)) []

-- the number that the last `settrapparams` with a key names, else a default
abbrev pub number_in_force : List Object → List Statement → Key → ℕ → ℕ
number_in_force objects earlier key default =
    let named = last_naming is_settrapparams (value_of (name_of key) objects) earlier in
    result_unwrap_or (value_at (by_body (number_of key)) objects default named) default

-- the boolean that the last `settrapparams` with a key names, else a default
abbrev pub boolean_in_force : List Object → List Statement → Key → Bool → Bool
boolean_in_force objects earlier key default =
    let named = last_naming is_settrapparams (value_of (name_of key) objects) earlier in
    result_unwrap_or (value_at (by_body (boolean_of key)) objects default named) default

-- each parameter by itself, else the usual one
abbrev pub params_in_force : List Object → List Statement → TrapParams
params_in_force objects earlier =
    params_by (λ key. number_in_force objects earlier key (number_at key usual_params))
    (boolean_in_force objects earlier Enabled usual_params.enabled)

-- the step limits that the last `settrapparams` with ColorantZoneDetails names, else none
abbrev pub limits_in_force : List Object → List Statement → List Limit
limits_in_force objects earlier =
    let look = λ (dict : ℕ). last_of objects dict (codes "ColorantZoneDetails") in
    result_unwrap_or (limits_at [] objects (last_naming is_settrapparams look earlier)) []

-- Statements that name nothing.

-- the keys that `setpagedevice` knows
abbrev pub device_keys : List (List ℕ)
device_keys = codes "HWResolution" ∷ codes "Trapping" ∷ codes "TrappingDetails" ∷ []

-- the keys that `settrapparams` knows
abbrev pub params_keys : List (List ℕ)
params_keys =
    map name_of number_keys ++ name_of Enabled ∷ codes "ColorantZoneDetails" ∷ []

-- a dictionary has no entry of these keys
abbrev pub NamesNone : List Object → ℕ → List (List ℕ) → Type 0
NamesNone objects dict keys = All (λ key. last_of objects dict key ≡ None) keys
