-- A dictionary that names nothing sets nothing.
use Rattle.std.proofs.Common.{◌≡◌, All, map, fold, refl, ◌++◌, ℕ, ◌+◌, Bool, true, cond, List, [], ◌∷◌, drop, take, get_or, None, Result, Ok, ap, ◌∙◌}
use Rattle.std.specs.Prelude.{slice_get, codes}
use Rattle.std.proofs.lemmas.List.Elements.{All-nil, All-cons, All-head, All-tail, All-weaker}
use Rattle.page_model.specs.declared.parts.TrapParams.{TrapParams}
use Rattle.ps_tokens.specs.declared.faults.JobFault.{JobFault}
use Rattle.ps_tokens.specs.declared.parameters.Key.{Key}
use Rattle.ps_tokens.specs.declared.parameters.Key.TheVariants.{Enabled, Trapping}
use Rattle.ps_tokens.specs.declared.faults.FaultKind.TheVariants.{WrongOperands}
use Rattle.ps_tokens.specs.declared.entry_errors.EntryError.{EntryError}
use Rattle.ps_tokens.specs.declared.object.Object.{Object}
use Rattle.ps_tokens.specs.EntryErrors.{unless}
use Rattle.ps_tokens.specs.Dictionaries.{inside_of, keys_of, keys_from, last_of, last_among}
use Rattle.ps_tokens.specs.Values.{by_body, value_at}
use Rattle.std.specs.Result.{result_unwrap_or}
use Rattle.ps_tokens.specs.EntryErrors.{error_of, earlier}
use Rattle.job_parts.specs.Applied.{number_set, enabled_set, params_after, params_set as params_given}
use Rattle.job_parts.specs.Fields.{number_keys, number_at}
use Rattle.job_parts.proofs.FieldLemmas.{Agree, each_number, params_by-same, params_by-own}
use Rattle.job_parts.specs.Limits.{limits_after, limits_at}
use Rattle.ps_tokens.specs.Parameters.{name_of}
use Rattle.job_parts.specs.Settings.{number_of, boolean_of, number_after, boolean_after}
use Rattle.job_reader.specs.declared.operators.Operator.TheVariants.{SetPageDevice, SetTrapParams}
use Rattle.job_reader.specs.declared.state.State.{State}
use Rattle.job_reader.specs.Device.{details_at, details_in, device_from, device_set, resolution_after, resolution_in}
use Rattle.job_reader.specs.InForce.{NamesNone, device_keys, params_keys}
use Rattle.job_reader.specs.Operands.{is_one_dict}
use Rattle.job_reader.specs.Statements.{both_set, fault, params_set, state_after}

resolution-none : (objects : List Object) (dict now : ℕ) → last_of objects dict (codes "HWResolution") ≡ None → resolution_after objects dict now ≡ Ok now
unfolding resolution_after
resolution-none objects dict now none = ap (value_at (resolution_in objects) objects now) none

boolean-none : (objects : List Object) (dict : ℕ) (key : Key) (now : Bool) → last_of objects dict (name_of key) ≡ None → boolean_after objects dict key now ≡ Ok now
unfolding boolean_after
boolean-none objects dict key now none = ap (value_at (by_body (boolean_of key)) objects now) none

number-none : (objects : List Object) (dict : ℕ) (key : Key) (now : ℕ) → last_of objects dict (name_of key) ≡ None → number_after objects dict key now ≡ Ok now
unfolding number_after
number-none objects dict key now none = ap (value_at (by_body (number_of key)) objects now) none

details-none : (objects : List Object) (dict : ℕ) → last_of objects dict (codes "TrappingDetails") ≡ None → details_in objects dict ≡ Ok None
unfolding details_in
details-none objects dict none = ap (details_at objects) none

device-none : (objects : List Object) (dict : ℕ) (now : State) → NamesNone objects dict device_keys → device_set objects dict now ≡ Ok now
device-none objects dict now none =
    let P : List ℕ → Type 0 = λ key. last_of objects dict key ≡ None in
    let one = All-head P (codes "HWResolution") (codes "Trapping" ∷ codes "TrappingDetails" ∷ []) none in
    let rest = All-tail P (codes "HWResolution") (codes "Trapping" ∷ codes "TrappingDetails" ∷ []) none in
    let two = All-head P (codes "Trapping") (codes "TrappingDetails" ∷ []) rest in
    let three = All-head P (codes "TrappingDetails") [] (All-tail P (codes "Trapping") (codes "TrappingDetails" ∷ []) rest) in
    ap (λ r. device_from r (boolean_after objects dict Trapping now.trapping) (details_in objects dict) now) (resolution-none objects dict now.resolution one)
    ∙ ap (λ t. device_from (Ok now.resolution) t (details_in objects dict) now) (boolean-none objects dict Trapping now.trapping two)
    ∙ ap (λ d. device_from (Ok now.resolution) (Ok now.trapping) d now) (details-none objects dict three)

-- what holds of all of a list that is mapped holds of each that it is mapped from
All-of_map : {X Y : Type 0} (P : Y → Type 0) (f : X → Y) (xs : List X) → All P (map f xs) → All (λ x. P (f x)) xs
All-of_map P f [] all = All-nil (λ x. P (f x))
All-of_map P f (x ∷ xs) all = All-cons (λ x. P (f x)) x xs (All-head P (f x) (map f xs) all) (All-of_map P f xs (All-tail P (f x) (map f xs) all))

-- and what holds of all of two lists holds of all of each
All-parts : {X : Type 0} (P : X → Type 0) (xs ys : List X) → All P (xs ++ ys) → All P xs × All P ys
All-parts P [] ys all = (All-nil P, all)
All-parts P (x ∷ xs) ys all =
    let rest = All-parts P xs ys (All-tail P x (xs ++ ys) all) in
    (All-cons P x xs (All-head P x (xs ++ ys) all) rest.0, rest.1)

-- settings that all are what is now give no error
unset : (set : Key → Result ℕ EntryError) (now : Key → ℕ) (keys : List Key) → All (λ key. set key ≡ Ok (now key)) keys → fold (λ first key. earlier first (error_of (set key))) None keys ≡ None
unset set now [] all = refl
unset set now (key ∷ keys) all =
    let Same : Key → Type 0 = λ key. set key ≡ Ok (now key) in
    let none : error_of (set key) ≡ None = ap error_of (All-head Same key keys all) in
    ap (λ first. fold (λ first key. earlier first (error_of (set key))) first keys) none ∙ unset set now keys (All-tail Same key keys all)

params_after-none : (objects : List Object) (dict : ℕ) (now : TrapParams) → NamesNone objects dict (map name_of number_keys) → last_of objects dict (name_of Enabled) ≡ None → params_after now objects dict ≡ Ok now
params_after-none objects dict now none enabled =
    let Same : Key → Type 0 = λ key. number_set now objects dict key ≡ Ok (number_at key now) in
    let same : All Same number_keys = All-weaker (λ key. last_of objects dict (name_of key) ≡ None) Same (λ key absent. number-none objects dict key (number_at key now) absent) number_keys (All-of_map (λ name. last_of objects dict name ≡ None) name_of number_keys none) in
    let given : Key → ℕ = λ key. result_unwrap_or (number_set now objects dict key) (number_at key now) in
    let alike : Agree given (λ key. number_at key now) = λ key is. ap (λ r. result_unwrap_or r (number_at key now)) (each_number Same same key is) in
    let stays : enabled_set now objects dict ≡ Ok now.enabled = boolean-none objects dict Enabled now.enabled enabled in
    let kept : params_given now objects dict ≡ now = params_by-same given (λ key. number_at key now) (result_unwrap_or (enabled_set now objects dict) now.enabled) now.enabled alike (ap (λ r. result_unwrap_or r now.enabled) stays) ∙ params_by-own now in
    ap (λ m. unless (earlier m (error_of (enabled_set now objects dict))) (params_given now objects dict)) (unset (number_set now objects dict) (λ key. number_at key now) number_keys same)
    ∙ ap (λ r. unless (error_of r) (params_given now objects dict)) stays
    ∙ ap Ok kept

params-none : (objects : List Object) (dict : ℕ) (now : State) → NamesNone objects dict params_keys → params_set objects dict now ≡ Ok now
params-none objects dict now none =
    let Absent : List ℕ → Type 0 = λ key. last_of objects dict key ≡ None in
    let names = map name_of number_keys in
    let parts = All-parts Absent names (name_of Enabled ∷ codes "ColorantZoneDetails" ∷ []) none in
    let limits = All-head Absent (codes "ColorantZoneDetails") [] (All-tail Absent (name_of Enabled) (codes "ColorantZoneDetails" ∷ []) parts.1) in
    ap (λ p. both_set p (limits_after now.limits objects dict) now)
    (params_after-none objects dict now.params parts.0 (All-head Absent (name_of Enabled) (codes "ColorantZoneDetails" ∷ []) parts.1))
    ∙ ap (λ o. both_set (Ok now.params) (limits_at now.limits objects o) now) limits

-- operands of one dictionary
with_one : (objects : List Object) (from place at : ℕ) (r s : Result State JobFault) → is_one_dict objects from place ≡ true → r ≡ s → cond (is_one_dict objects from place) r (fault WrongOperands at) ≡ s
with_one objects from place at r s one same = ap (λ b. cond b r (fault WrongOperands at)) one ∙ same

pub page_device-none : (objects : List Object) (from place at : ℕ) (now : State) → is_one_dict objects from place ≡ true → NamesNone objects from device_keys → state_after objects from place at SetPageDevice now ≡ Ok now
unfolding state_after
page_device-none objects from place at now one none = with_one objects from place at (device_set objects from now) (Ok now) one (device-none objects from now none)

pub trap_params-none : (objects : List Object) (from place at : ℕ) (now : State) → is_one_dict objects from place ≡ true → NamesNone objects from params_keys → state_after objects from place at SetTrapParams now ≡ Ok now
unfolding state_after
trap_params-none objects from place at now one none = with_one objects from place at (params_set objects from now) (Ok now) one (params-none objects from now none)

-- An empty dictionary names nothing.

within-none : (n : ℕ) (objects : List Object) → n ≡ 0 → take n objects ≡ []
within-none n objects none = ap (λ k. take k objects) none

pub empty-none : (objects : List Object) (dict : ℕ) (key : List ℕ) → inside_of (slice_get objects dict) ≡ 0 → last_of objects dict key ≡ None
unfolding last_of keys_of
empty-none objects dict key empty = ap (λ os. last_among objects key None (keys_from (dict + 1) 0 os)) (within-none (inside_of (slice_get objects dict)) (drop (dict + 1) objects) empty)

pub empty-all-none : (objects : List Object) (dict : ℕ) (keys : List (List ℕ)) → inside_of (slice_get objects dict) ≡ 0 → NamesNone objects dict keys
empty-all-none objects dict keys empty = λ k d within. empty-none objects dict (get_or keys k d) empty
