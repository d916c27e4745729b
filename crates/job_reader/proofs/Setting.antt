-- What one statement sets, and what it leaves as it was.
use Rattle.std.proofs.lemmas.List.Elements.{All-nil, All-cons}
use Rattle.std.proofs.Common.{◌≡◌, ap, sym, ◌∙◌, fold, All, ℕ, ℤ, ◌==◌, ◌+◌, ◌++◌, Bool, true, false, cond, List, [], ◌∷◌, length, Option, Some, None, Result, Ok, Err, refl, subst}
use Rattle.std.specs.Prelude.{nat_le, nat_lt}
use Rattle.std.specs.Result.{result_unwrap_or}
use Rattle.page_model.specs.declared.parts.Limit.{Limit}
use Rattle.page_model.specs.declared.parts.TrapParams.{TrapParams}
use Rattle.page_model.specs.declared.parts.Zone.{Zone}
use Rattle.ps_tokens.specs.declared.faults.FaultKind.{FaultKind}
use Rattle.ps_tokens.specs.declared.faults.FaultKind.TheVariants.{TooManyVertices, TooManyZones, WrongOperands}
use Rattle.ps_tokens.specs.declared.faults.JobFault.{JobFault}
use Rattle.ps_tokens.specs.declared.parameters.Key.{Key}
use Rattle.ps_tokens.specs.declared.parameters.Key.TheVariants.{Trapping}
use Rattle.ps_tokens.specs.declared.entry_errors.EntryError.{EntryError}
use Rattle.ps_tokens.specs.declared.object.Object.{Object}
use Rattle.ps_tokens.specs.EntryErrors.{error_of, earlier, unless}
use Rattle.job_parts.specs.Applied.{number_set, enabled_set, first_error, first_error_of, params_after, params_set as params_given}
use Rattle.job_parts.specs.Fields.{number_keys, number_at, is_number}
use Rattle.job_parts.proofs.FieldLemmas.{each_number, number_at-by}
use Rattle.job_parts.specs.Limits.{limits_after}
use Rattle.job_parts.specs.Settings.{boolean_after}
use Rattle.job_parts.specs.Paths.{Drawing, nothing_drawn, moveto, lineto, rmoveto, rlineto, closepath}
use Rattle.job_reader.specs.declared.operators.Operator.{Operator}
use Rattle.job_reader.specs.declared.operators.Operator.TheVariants.{SetPageDevice, SetTrapParams, NewPath, ClosePath, MoveTo, LineTo, RelativeMoveTo, RelativeLineTo, SetTrapZone, ShowPage}
use Rattle.job_reader.specs.declared.state.State.{State}
use Rattle.job_reader.specs.Device.{details_in, details_or, device_set, resolution_after}
use Rattle.job_reader.specs.InForce.{is_setpagedevice, is_settrapparams}
use Rattle.job_reader.specs.Operands.{is_one_dict, two_numbers}
use Rattle.job_reader.specs.Statements.{both_set, path_drawn, fault, params_set, state_after, with_numbers, zone_made, zone_of}
use Rattle.job_reader.proofs.ParamRanges.{unless-is}
use Rattle.page_model.specs.Limits.{most_job_zones, most_vertices_in_all}

-- No fault among several.

unless-none : {X : Type 0} (m : Option EntryError) (x y : X) → unless m x ≡ Ok y → m ≡ None
unless-none None x y is = refl
unless-none (Some error) x y is = absurd (cc)

chosen : (b : Bool) (first second : EntryError) → cond b (Some second) (Some first) ≡ None → (Some first ≡ None) × (Some second ≡ None)
chosen true first second is = absurd (cc)
chosen false first second is = absurd (cc)

earlier-none : (a b : Option EntryError) → earlier a b ≡ None → (a ≡ None) × (b ≡ None)
earlier-none None b is = (refl, is)
earlier-none (Some first) None is = absurd (cc)
earlier-none (Some first) (Some second) is = chosen (nat_lt second.place first.place) first second is

read : {X : Type 0} (r : Result X EntryError) (d : X) → error_of r ≡ None → r ≡ Ok (result_unwrap_or r d)
read (Ok x) d is = refl
read (Err error) d is = absurd (cc)

-- what a `setpagedevice` dictionary sets
pub record SetsDevice (objects : List Object) (dict : ℕ) (now next : State) : Type 0 where
  pub resolution : resolution_after objects dict now.resolution ≡ Ok next.resolution
  pub trapping : boolean_after objects dict Trapping now.trapping ≡ Ok next.trapping
  pub fine : error_of (details_in objects dict) ≡ None
  pub details : details_or (details_in objects dict) now.details ≡ next.details
  pub params : next.params ≡ now.params
  pub limits : next.limits ≡ now.limits

pub device_set-sets : (objects : List Object) (dict : ℕ) (now next : State) → device_set objects dict now ≡ Ok next → SetsDevice objects dict now next
device_set-sets objects dict now next is =
    let resolution = resolution_after objects dict now.resolution in
    let trapping = boolean_after objects dict Trapping now.trapping in
    let details = details_in objects dict in
    let set : State = record now { resolution = result_unwrap_or resolution now.resolution; trapping = result_unwrap_or trapping now.trapping; details = details_or details now.details } in
    let first = earlier (error_of resolution) (earlier (error_of trapping) (error_of details)) in
    let same : set ≡ next = unless-is first set next is in
    let none = earlier-none (error_of resolution) (earlier (error_of trapping) (error_of details)) (unless-none first set next is) in
    let rest = earlier-none (error_of trapping) (error_of details) none.1 in
    subst (λ (s : State). SetsDevice objects dict now s) same (record {
      resolution = read resolution now.resolution none.0;
      trapping = read trapping now.trapping rest.0;
      fine = rest.1;
      details = refl;
      params = refl;
      limits = refl;
    })

-- what a `settrapparams` dictionary sets of the parameters
pub record SetsParams (objects : List Object) (dict : ℕ) (now next : TrapParams) : Type 0 where
  pub numbers : (key : Key) → is_number key ≡ true → number_set now objects dict key ≡ Ok (number_at key next)
  pub enabled : enabled_set now objects dict ≡ Ok next.enabled

-- where none of some keys is the first error, none of them has one, nor had what came before
none_missed : (set : Key → Result ℕ EntryError) (keys : List Key) (before : Option EntryError) → fold (λ first key. earlier first (error_of (set key))) before keys ≡ None → (before ≡ None) × All (λ key. error_of (set key) ≡ None) keys
none_missed set [] before none = (none, All-nil (λ key. error_of (set key) ≡ None))
none_missed set (key ∷ keys) before none =
    let rest = none_missed set keys (earlier before (error_of (set key))) none in
    let both = earlier-none before (error_of (set key)) rest.0 in
    (both.0, All-cons (λ key. error_of (set key) ≡ None) key keys both.1 rest.1)

params_after-sets : (objects : List Object) (dict : ℕ) (now next : TrapParams) → params_after now objects dict ≡ Ok next → SetsParams objects dict now next
params_after-sets objects dict now next is =
    let set : Key → Result ℕ EntryError = number_set now objects dict in
    let given : Key → ℕ = λ key. result_unwrap_or (set key) (number_at key now) in
    let enabled = enabled_set now objects dict in
    let none : first_error_of now objects dict ≡ None = unless-none (first_error_of now objects dict) (params_given now objects dict) next is in
    let parts = earlier-none (first_error set number_keys) (error_of enabled) none in
    let each = (none_missed set number_keys None parts.0).1 in
    subst (λ (p : TrapParams). SetsParams objects dict now p) (unless-is (first_error_of now objects dict) (params_given now objects dict) next is) (record {
      numbers = λ key is. read (set key) (number_at key now) (each_number (λ k. error_of (set k) ≡ None) each key is) ∙ ap Ok (sym (number_at-by given (result_unwrap_or enabled now.enabled) key is));
      enabled = read enabled now.enabled parts.1;
    })

-- what it sets in all
pub record SetsZones (objects : List Object) (dict : ℕ) (now next : State) : Type 0 where
  pub params : SetsParams objects dict now.params next.params
  pub limits : limits_after now.limits objects dict ≡ Ok next.limits
  pub resolution : next.resolution ≡ now.resolution
  pub trapping : next.trapping ≡ now.trapping
  pub details : next.details ≡ now.details

both_set-sets : (objects : List Object) (dict : ℕ) (params : Result TrapParams JobFault) (limits : Result (List Limit) JobFault) (now next : State) → params_after now.params objects dict ≡ params → limits_after now.limits objects dict ≡ limits → both_set params limits now ≡ Ok next → SetsZones objects dict now next
both_set-sets objects dict (Ok p) (Ok l) now next params limits is =
    let set : State = record now { params = p; limits = l } in
    let same : set ≡ next = cc in
    subst (λ (s : State). SetsZones objects dict now s) same (record { params = params_after-sets objects dict now.params p params; limits = limits; resolution = refl; trapping = refl; details = refl })
both_set-sets objects dict (Ok p) (Err second) now next params limits is = absurd (cc)
both_set-sets objects dict (Err first) (Ok l) now next params limits is = absurd (cc)
both_set-sets objects dict (Err first) (Err second) now next params limits is = absurd (cc)

pub params_set-sets : (objects : List Object) (dict : ℕ) (now next : State) → params_set objects dict now ≡ Ok next → SetsZones objects dict now next
params_set-sets objects dict now next is = both_set-sets objects dict (params_after now.params objects dict) (limits_after now.limits objects dict) now next refl refl is

-- The other statements.

-- what holds of the state that is left, if one is
abbrev Left : (State → Type 0) → Result State JobFault → Type 0
Left P r = (next : State) → r ≡ Ok next → P next

left : (P : State → Type 0) (now : State) → P now → Left P (Ok now)
left P now is next same = let e : now ≡ next = cc in subst P e is

faulty : (P : State → Type 0) (kind : FaultKind) (at : ℕ) → Left P (fault kind at)
faulty P kind at next is = absurd (cc)

pub guarded : (P : State → Type 0) (b : Bool) (r : Result State JobFault) (at : ℕ) → Left P r → Left P (cond b r (fault WrongOperands at))
guarded P true r at gives = gives
guarded P false r at gives = faulty P WrongOperands at

numbered : (P : State → Type 0) (at : ℕ) (o : Option (ℤ × ℤ)) (draw : ℤ → ℤ → Result State JobFault) → ((x y : ℤ) → Left P (draw x y)) → Left P (with_numbers at o draw)
numbered P at None draw gives = faulty P WrongOperands at
numbered P at (Some p) draw gives = gives p.0 p.1

-- what holds whatever becomes of the path and the zones
abbrev Whatever : (State → Type 0) → State → Type 0
Whatever P now = (path : Drawing) (zones : List Zone) (vertices : ℕ) → P (record now { path = path; zones = zones; vertices = vertices })

path_drawn-left : (P : State → Type 0) (at : ℕ) (now : State) (r : Result Drawing FaultKind) → Whatever P now → Left P (path_drawn at now r)
path_drawn-left P at now (Ok d) all = left P (record now { path = d }) (all d now.zones now.vertices)
path_drawn-left P at now (Err kind) all = faulty P kind at

fits_if : (P : State → Type 0) (b : Bool) (at : ℕ) (now made : State) → P made → Left P (cond b (fault TooManyVertices at) (Ok made))
fits_if P true at now made is = faulty P TooManyVertices at
fits_if P false at now made is = left P made is

workspace_if : (P : State → Type 0) (b : Bool) (at : ℕ) (r : Result State JobFault) → Left P r → Left P (cond b (fault TooManyZones at) r)
workspace_if P true at r gives = faulty P TooManyZones at
workspace_if P false at r gives = gives

made-left : (P : State → Type 0) (at : ℕ) (now : State) → Whatever P now → Left P (zone_made at now)
made-left P at now all =
    let made : State = record now { zones = now.zones ++ zone_of now ∷ []; path = nothing_drawn; vertices = now.vertices + length now.path.vertices } in
    workspace_if P (nat_le most_job_zones (length now.zones)) at (cond (nat_lt most_vertices_in_all (now.vertices + length now.path.vertices)) (fault TooManyVertices at) (Ok made))
    (fits_if P (nat_lt most_vertices_in_all (now.vertices + length now.path.vertices)) at now made (all nothing_drawn (now.zones ++ zone_of now ∷ []) (now.vertices + length now.path.vertices)))

pub others-left : (P : State → Type 0) (objects : List Object) (from place at : ℕ) (now : State) → Whatever P now → (o : Operator) → is_setpagedevice o ≡ false → is_settrapparams o ≡ false → Left P (state_after objects from place at o now)
unfolding state_after
others-left P objects from place at now all SetPageDevice device params = absurd (cc)
others-left P objects from place at now all SetTrapParams device params = absurd (cc)
others-left P objects from place at now all NewPath device params = guarded P (from == place) (Ok (record now { path = nothing_drawn })) at (left P (record now { path = nothing_drawn }) (all nothing_drawn now.zones now.vertices))
others-left P objects from place at now all ClosePath device params = guarded P (from == place) (Ok (record now { path = closepath now.path })) at (left P (record now { path = closepath now.path }) (all (closepath now.path) now.zones now.vertices))
others-left P objects from place at now all MoveTo device params = numbered P at (two_numbers objects from place) (λ x y. path_drawn at now (moveto x y now.path)) (λ x y. path_drawn-left P at now (moveto x y now.path) all)
others-left P objects from place at now all LineTo device params = numbered P at (two_numbers objects from place) (λ x y. path_drawn at now (lineto x y now.path)) (λ x y. path_drawn-left P at now (lineto x y now.path) all)
others-left P objects from place at now all RelativeMoveTo device params = numbered P at (two_numbers objects from place) (λ x y. path_drawn at now (rmoveto x y now.path)) (λ x y. path_drawn-left P at now (rmoveto x y now.path) all)
others-left P objects from place at now all RelativeLineTo device params = numbered P at (two_numbers objects from place) (λ x y. path_drawn at now (rlineto x y now.path)) (λ x y. path_drawn-left P at now (rlineto x y now.path) all)
others-left P objects from place at now all SetTrapZone device params = guarded P (from == place) (zone_made at now) at (made-left P at now all)
others-left P objects from place at now all ShowPage device params = left P now (all now.path now.zones now.vertices)

-- `setpagedevice` and `settrapparams` with their operands
pub device-left : (P : State → Type 0) (objects : List Object) (from place at : ℕ) (now : State) → ((next : State) → SetsDevice objects from now next → P next) → Left P (state_after objects from place at SetPageDevice now)
unfolding state_after
device-left P objects from place at now sets = guarded P (is_one_dict objects from place) (device_set objects from now) at (λ next is. sets next (device_set-sets objects from now next is))

pub params-left : (P : State → Type 0) (objects : List Object) (from place at : ℕ) (now : State) → ((next : State) → SetsZones objects from now next → P next) → Left P (state_after objects from place at SetTrapParams now)
unfolding state_after
params-left P objects from place at now sets = guarded P (is_one_dict objects from place) (params_set objects from now) at (λ next is. sets next (params_set-sets objects from now next is))
