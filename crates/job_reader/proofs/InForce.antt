-- The state that is carried forward has what the earlier statements put in force.
use Rattle.std.proofs.Common.{◌≡◌, ℕ, Bool, true, false, cond, List, [], ◌∷◌, ◌++◌, Option, Some, None, Result, Ok, Err, refl, sym, ap, ◌∙◌}
use Rattle.std.specs.Prelude.{slice_get, codes}
use Rattle.std.specs.List.{cons_option, filter_map, last_or}
use Rattle.std.specs.Result.{result_unwrap_or}
use Rattle.std.proofs.lemmas.List.Elements.{All-head, All-tail}
use Rattle.page_model.specs.declared.parts.Ink.{Ink}
use Rattle.page_model.specs.declared.parts.Limit.{Limit}
use Rattle.ps_tokens.specs.declared.faults.FaultKind.{FaultKind}
use Rattle.ps_tokens.specs.declared.faults.JobFault.{JobFault}
use Rattle.ps_tokens.specs.declared.parameters.Key.{Key}
use Rattle.ps_tokens.specs.declared.parameters.Key.TheVariants.{Enabled, Trapping}
use Rattle.ps_tokens.specs.declared.object.Object.{Object}
use Rattle.ps_tokens.specs.Dictionaries.{last_of}
use Rattle.ps_tokens.specs.EntryErrors.{error_of}
use Rattle.ps_tokens.specs.Values.{by_body, value_by, value_at, place_if_some, place_of_value}
use Rattle.job_parts.specs.Limits.{limits_at}
use Rattle.ps_tokens.specs.Parameters.{name_of}
use Rattle.job_parts.specs.Settings.{number_of, boolean_of, number_after, boolean_after}
use Rattle.job_parts.specs.Details.{details_of}
use Rattle.job_reader.specs.declared.job.Job.{Job}
use Rattle.job_reader.specs.declared.operators.Operator.{Operator}
use Rattle.job_reader.specs.declared.operators.Operator.TheVariants.{SetPageDevice, SetTrapParams, NewPath, ClosePath, MoveTo, LineTo, RelativeMoveTo, RelativeLineTo, SetTrapZone, ShowPage}
use Rattle.job_reader.specs.declared.state.State.{State}
use Rattle.job_reader.specs.Calls.{Statement, is_showpage}
use Rattle.job_reader.specs.Device.{resolution_in, resolution_after, details_at, details_in, details_or, named_details}
use Rattle.job_reader.specs.InForce.{NoneShows, after_one, going_on, after_all, is_setpagedevice, is_settrapparams, is_by, value_of, named_by, resolution_in_force, trapping_in_force, details_in_force, number_in_force, boolean_in_force, params_in_force, limits_in_force}
use Rattle.job_reader.specs.Jobs.{then_job, statement_then, read_from}
use Rattle.page_model.specs.Parameters.{usual_params}
use Rattle.job_parts.specs.Fields.{number_at, is_number}
use Rattle.job_parts.proofs.FieldLemmas.{params_by-same, params_by-own}
use Rattle.job_reader.specs.Starts.{nothing_read}
use Rattle.job_reader.specs.Statements.{state_after, job_shown}
use Rattle.job_reader.proofs.Setting.{SetsDevice, SetsZones, others-left, device-left, params-left}

-- One entry, statement after statement.

-- an entry stays where it is not named, and else is the value that is named
abbrev Goes : {X : Type 0} → (Option ℕ → X) → X → X → Option ℕ → Type 0
Goes value now next None = next ≡ now
Goes value now next (Some place) = next ≡ value (Some place)

going : (r : Result State JobFault) (rest : State → Result State JobFault) (last : State) → going_on r rest ≡ Ok last → (next : State) × (r ≡ Ok next) × (rest next ≡ Ok last)
going (Ok next) rest last is = (next, refl, is)
going (Err first) rest last is = absurd (cc)

goes-on : {X : Type 0} (value : Option ℕ → X) (named before : Option ℕ) (rest : List ℕ) (now next last : X) → Goes value now next named → now ≡ value before → ((o : Option ℕ) → next ≡ value o → last ≡ value (last_or o rest)) → last ≡ value (last_or before (cons_option named rest))
goes-on value None before rest now next last goes is more = more before (goes ∙ is)
goes-on value (Some place) before rest now next last goes is more = more (Some place) goes

entry-after : {X : Type 0} (objects : List Object) (field : State → X) (look : Statement → Option ℕ) (value : Option ℕ → X)
    → ((s : Statement) (now next : State) → after_one objects s s.call.operator now ≡ Ok next → Goes value (field now) (field next) (look s))
    → (ss : List Statement) (before : Option ℕ) (now last : State) → field now ≡ value before → after_all objects now ss ≡ Ok last → field last ≡ value (last_or before (filter_map look ss))
unfolding after_all
entry-after objects field look value step [] before now last is done = let same : now ≡ last = cc in ap field (sym same) ∙ is
entry-after objects field look value step (s ∷ ss) before now last is done =
    let one = going (after_one objects s s.call.operator now) (λ next. after_all objects next ss) last done in
    goes-on value (look s) before (filter_map look ss) (field now) (field one.0) (field last) (step s now one.0 one.1) is
    (λ o there. entry-after objects field look value step ss o one.0 last there one.2)

-- An entry of `setpagedevice`.

abbrev KeepsDevice : {X : Type 0} → (State → X) → Type 0
KeepsDevice field = (now next : State) → next.resolution ≡ now.resolution → next.trapping ≡ now.trapping → next.details ≡ now.details → field next ≡ field now

device-other : {X : Type 0} (objects : List Object) (field : State → X) (s : Statement) (now next : State) → KeepsDevice field → (o : Operator) → is_setpagedevice o ≡ false → is_settrapparams o ≡ false → state_after objects s.from s.place s.call.at o now ≡ Ok next → field next ≡ field now
device-other objects field s now next keeps o device params is =
    others-left (λ n. field n ≡ field now) objects s.from s.place s.call.at now (λ path zones vertices. keeps now (record now { path = path; zones = zones; vertices = vertices }) refl refl refl) o device params next is

device-step : {X : Type 0} (objects : List Object) (field : State → X) (look : ℕ → Option ℕ) (value : Option ℕ → X) → KeepsDevice field
    → ((dict : ℕ) (now next : State) → SetsDevice objects dict now next → Goes value (field now) (field next) (look dict))
    → (o : Option Operator) (s : Statement) (now next : State) → after_one objects s o now ≡ Ok next → Goes value (field now) (field next) (cond (is_by is_setpagedevice o) (look s.from) None)
device-step objects field look value keeps sets None s now next is = absurd (cc)
device-step objects field look value keeps sets (Some SetPageDevice) s now next is =
    device-left (λ n. Goes value (field now) (field n) (look s.from)) objects s.from s.place s.call.at now (λ n set. sets s.from now n set) next is
device-step objects field look value keeps sets (Some SetTrapParams) s now next is =
    params-left (λ n. field n ≡ field now) objects s.from s.place s.call.at now (λ n set. keeps now n set.resolution set.trapping set.details) next is
device-step objects field look value keeps sets (Some NewPath) s now next is = device-other objects field s now next keeps NewPath refl refl is
device-step objects field look value keeps sets (Some ClosePath) s now next is = device-other objects field s now next keeps ClosePath refl refl is
device-step objects field look value keeps sets (Some MoveTo) s now next is = device-other objects field s now next keeps MoveTo refl refl is
device-step objects field look value keeps sets (Some LineTo) s now next is = device-other objects field s now next keeps LineTo refl refl is
device-step objects field look value keeps sets (Some RelativeMoveTo) s now next is = device-other objects field s now next keeps RelativeMoveTo refl refl is
device-step objects field look value keeps sets (Some RelativeLineTo) s now next is = device-other objects field s now next keeps RelativeLineTo refl refl is
device-step objects field look value keeps sets (Some SetTrapZone) s now next is = device-other objects field s now next keeps SetTrapZone refl refl is
device-step objects field look value keeps sets (Some ShowPage) s now next is = device-other objects field s now next keeps ShowPage refl refl is

-- An entry of `settrapparams`.

abbrev KeepsParams : {X : Type 0} → (State → X) → Type 0
KeepsParams field = (now next : State) → next.params ≡ now.params → next.limits ≡ now.limits → field next ≡ field now

params-other : {X : Type 0} (objects : List Object) (field : State → X) (s : Statement) (now next : State) → KeepsParams field → (o : Operator) → is_setpagedevice o ≡ false → is_settrapparams o ≡ false → state_after objects s.from s.place s.call.at o now ≡ Ok next → field next ≡ field now
params-other objects field s now next keeps o device params is =
    others-left (λ n. field n ≡ field now) objects s.from s.place s.call.at now (λ path zones vertices. keeps now (record now { path = path; zones = zones; vertices = vertices }) refl refl) o device params next is

params-step : {X : Type 0} (objects : List Object) (field : State → X) (look : ℕ → Option ℕ) (value : Option ℕ → X) → KeepsParams field
    → ((dict : ℕ) (now next : State) → SetsZones objects dict now next → Goes value (field now) (field next) (look dict))
    → (o : Option Operator) (s : Statement) (now next : State) → after_one objects s o now ≡ Ok next → Goes value (field now) (field next) (cond (is_by is_settrapparams o) (look s.from) None)
params-step objects field look value keeps sets None s now next is = absurd (cc)
params-step objects field look value keeps sets (Some SetPageDevice) s now next is =
    device-left (λ n. field n ≡ field now) objects s.from s.place s.call.at now (λ n set. keeps now n set.params set.limits) next is
params-step objects field look value keeps sets (Some SetTrapParams) s now next is =
    params-left (λ n. Goes value (field now) (field n) (look s.from)) objects s.from s.place s.call.at now (λ n set. sets s.from now n set) next is
params-step objects field look value keeps sets (Some NewPath) s now next is = params-other objects field s now next keeps NewPath refl refl is
params-step objects field look value keeps sets (Some ClosePath) s now next is = params-other objects field s now next keeps ClosePath refl refl is
params-step objects field look value keeps sets (Some MoveTo) s now next is = params-other objects field s now next keeps MoveTo refl refl is
params-step objects field look value keeps sets (Some LineTo) s now next is = params-other objects field s now next keeps LineTo refl refl is
params-step objects field look value keeps sets (Some RelativeMoveTo) s now next is = params-other objects field s now next keeps RelativeMoveTo refl refl is
params-step objects field look value keeps sets (Some RelativeLineTo) s now next is = params-other objects field s now next keeps RelativeLineTo refl refl is
params-step objects field look value keeps sets (Some SetTrapZone) s now next is = params-other objects field s now next keeps SetTrapZone refl refl is
params-step objects field look value keeps sets (Some ShowPage) s now next is = params-other objects field s now next keeps ShowPage refl refl is

-- What one dictionary makes of one entry.

value-by : {X : Type 0} (judge : ℕ → Object → Result X FaultKind) (objects : List Object) (place : ℕ) (default now next : X) (o : Option Object) → slice_get objects place ≡ o → value_by judge now place o ≡ Ok next → Goes (λ p. result_unwrap_or (value_at judge objects default p) default) now next (place_if_some place o)
value-by judge objects place default now next None at is = cc
value-by judge objects place default now next (Some object) at is = sym (ap (λ r. result_unwrap_or r default) (ap (value_by judge default place) at ∙ is))

value-goes : {X : Type 0} (judge : ℕ → Object → Result X FaultKind) (objects : List Object) (default now next : X) (o : Option ℕ) → value_at judge objects now o ≡ Ok next → Goes (λ p. result_unwrap_or (value_at judge objects default p) default) now next (place_of_value objects o)
value-goes judge objects default now next None is = cc
value-goes judge objects default now next (Some place) is = value-by judge objects place default now next (slice_get objects place) refl is

number-goes : (objects : List Object) (dict default : ℕ) (key : Key) (now next : ℕ) → number_after objects dict key now ≡ Ok next → Goes (λ p. result_unwrap_or (value_at (by_body (number_of key)) objects default p) default) now next (value_of (name_of key) objects dict)
unfolding number_after
number-goes objects dict default key now next is = value-goes (by_body (number_of key)) objects default now next (last_of objects dict (name_of key)) is

boolean-goes : (objects : List Object) (dict : ℕ) (default : Bool) (key : Key) (now next : Bool) → boolean_after objects dict key now ≡ Ok next → Goes (λ p. result_unwrap_or (value_at (by_body (boolean_of key)) objects default p) default) now next (value_of (name_of key) objects dict)
unfolding boolean_after
boolean-goes objects dict default key now next is = value-goes (by_body (boolean_of key)) objects default now next (last_of objects dict (name_of key)) is

resolution-after : (objects : List Object) (dict now next : ℕ) → resolution_after objects dict now ≡ Ok next → Goes (λ p. result_unwrap_or (value_at (resolution_in objects) objects 0 p) 0) now next (value_of (codes "HWResolution") objects dict)
unfolding resolution_after
resolution-after objects dict now next is = value-goes (resolution_in objects) objects 0 now next (last_of objects dict (codes "HWResolution")) is

details-named : (place : ℕ) (r : Result (List Ink) JobFault) (now next : List Ink) → error_of (named_details place r) ≡ None → details_or (named_details place r) now ≡ next → next ≡ details_or (named_details place r) []
details-named place (Ok inks) now next fine is = sym is
details-named place (Err fault) now next fine is = absurd (cc)

details-goes : (objects : List Object) (now next : List Ink) (o : Option ℕ) → error_of (details_at objects o) ≡ None → details_or (details_at objects o) now ≡ next → Goes (λ p. details_or (details_at objects p) []) now next o
details-goes objects now next None fine is = sym is
details-goes objects now next (Some place) fine is = details-named place (details_of objects place) now next fine is

details-after : (objects : List Object) (dict : ℕ) (now next : List Ink) → error_of (details_in objects dict) ≡ None → details_or (details_in objects dict) now ≡ next → Goes (λ p. details_or (details_at objects p) []) now next (last_of objects dict (codes "TrappingDetails"))
unfolding details_in
details-after objects dict now next fine is = details-goes objects now next (last_of objects dict (codes "TrappingDetails")) fine is

limits-goes : (objects : List Object) (now next : List Limit) (o : Option ℕ) → limits_at now objects o ≡ Ok next → Goes (λ p. result_unwrap_or (limits_at [] objects p) []) now next o
limits-goes objects now next None is = cc
limits-goes objects now next (Some place) is = sym (ap (λ r. result_unwrap_or r []) is)

-- What is in force.

-- after statements without a fault
module _ (objects : List Object) (earlier : List Statement) (now : State) (done : after_all objects nothing_read earlier ≡ Ok now) where
  pub resolution-in_force : now.resolution ≡ resolution_in_force objects earlier
  resolution-in_force =
      let look : ℕ → Option ℕ = value_of (codes "HWResolution") objects in
      let value : Option ℕ → ℕ = λ p. result_unwrap_or (value_at (resolution_in objects) objects 0 p) 0 in
      entry-after objects (λ s. s.resolution) (named_by is_setpagedevice look) value
      (λ s a b is. device-step objects (λ n. n.resolution) look value (λ a b resolution trapping details. resolution) (λ dict a b set. resolution-after objects dict a.resolution b.resolution set.resolution) s.call.operator s a b is)
      earlier None nothing_read now refl done

  pub trapping-in_force : now.trapping ≡ trapping_in_force objects earlier
  trapping-in_force =
      let look : ℕ → Option ℕ = value_of (name_of Trapping) objects in
      let value : Option ℕ → Bool = λ p. result_unwrap_or (value_at (by_body (boolean_of Trapping)) objects true p) true in
      entry-after objects (λ s. s.trapping) (named_by is_setpagedevice look) value
      (λ s a b is. device-step objects (λ n. n.trapping) look value (λ a b resolution trapping details. trapping) (λ dict a b set. boolean-goes objects dict true Trapping a.trapping b.trapping set.trapping) s.call.operator s a b is)
      earlier None nothing_read now refl done

  pub details-in_force : now.details ≡ details_in_force objects earlier
  details-in_force =
      let look : ℕ → Option ℕ = λ dict. last_of objects dict (codes "TrappingDetails") in
      let value : Option ℕ → List Ink = λ p. details_or (details_at objects p) [] in
      entry-after objects (λ s. s.details) (named_by is_setpagedevice look) value
      (λ s a b is. device-step objects (λ n. n.details) look value (λ a b resolution trapping details. details) (λ dict a b set. details-after objects dict a.details b.details set.fine set.details) s.call.operator s a b is)
      earlier None nothing_read now refl done

  pub limits-in_force : now.limits ≡ limits_in_force objects earlier
  limits-in_force =
      let look : ℕ → Option ℕ = λ dict. last_of objects dict (codes "ColorantZoneDetails") in
      let value : Option ℕ → List Limit = λ p. result_unwrap_or (limits_at [] objects p) [] in
      entry-after objects (λ s. s.limits) (named_by is_settrapparams look) value
      (λ s a b is. params-step objects (λ n. n.limits) look value (λ a b params limits. limits) (λ dict a b set. limits-goes objects a.limits b.limits (last_of objects dict (codes "ColorantZoneDetails")) set.limits) s.call.operator s a b is)
      earlier None nothing_read now refl done

  number-in_force : (key : Key) → is_number key ≡ true → number_at key now.params ≡ number_in_force objects earlier key (number_at key usual_params)
  number-in_force key number =
      let usual : ℕ = number_at key usual_params in
      let look : ℕ → Option ℕ = value_of (name_of key) objects in
      let value : Option ℕ → ℕ = λ p. result_unwrap_or (value_at (by_body (number_of key)) objects usual p) usual in
      entry-after objects (λ s. number_at key s.params) (named_by is_settrapparams look) value
      (λ s a b is. params-step objects (λ n. number_at key n.params) look value (λ a b params limits. ap (number_at key) params) (λ dict a b set. number-goes objects dict usual key (number_at key a.params) (number_at key b.params) (set.params.numbers key number)) s.call.operator s a b is)
      earlier None nothing_read now refl done

  enabled-in_force : now.params.enabled ≡ boolean_in_force objects earlier Enabled true
  enabled-in_force =
      let look : ℕ → Option ℕ = value_of (name_of Enabled) objects in
      let value : Option ℕ → Bool = λ p. result_unwrap_or (value_at (by_body (boolean_of Enabled)) objects true p) true in
      entry-after objects (λ s. s.params.enabled) (named_by is_settrapparams look) value
      (λ s a b is. params-step objects (λ n. n.params.enabled) look value (λ a b params limits. ap (λ p. p.enabled) params) (λ dict a b set. boolean-goes objects dict true Enabled a.params.enabled b.params.enabled set.params.enabled) s.call.operator s a b is)
      earlier None nothing_read now refl done

  pub params-in_force : now.params ≡ params_in_force objects earlier
  params-in_force =
      sym (params_by-own now.params)
      ∙ params_by-same (λ key. number_at key now.params) (λ key. number_in_force objects earlier key (number_at key usual_params)) now.params.enabled (boolean_in_force objects earlier Enabled usual_params.enabled) number-in_force enabled-in_force

-- one statement that is performed
pub statement-after : (objects : List Object) (s : Statement) (o : Option Operator) (now next : State) (rest : State → Result Job JobFault) → is_by is_showpage o ≡ false → after_one objects s o now ≡ Ok next → statement_then objects s o now rest ≡ rest next
statement-after objects s None now next rest goes is = absurd (cc)
statement-after objects s (Some operator) now next rest goes is =
    ap (λ b. cond b (job_shown objects s.from s.place s.call.at now) (then_job (state_after objects s.from s.place s.call.at operator now) rest)) goes ∙ ap (λ q. then_job q rest) is

-- statements go on with what the earlier ones left in force
pub read_from-after : (objects : List Object) (len : ℕ) (earlier later : List Statement) (now next : State) → NoneShows earlier → after_all objects now earlier ≡ Ok next → read_from objects len now (earlier ++ later) ≡ read_from objects len next later
unfolding after_all read_from
read_from-after objects len [] later now next none done = let same : now ≡ next = cc in ap (λ n. read_from objects len n later) same
read_from-after objects len (s ∷ ss) later now next none done =
    let Not : Statement → Type 0 = λ s. is_by is_showpage s.call.operator ≡ false in
    let one = going (after_one objects s s.call.operator now) (λ n. after_all objects n ss) next done in
    statement-after objects s s.call.operator now one.0 (λ n. read_from objects len n (ss ++ later)) (All-head Not s ss none) one.1
    ∙ read_from-after objects len ss later one.0 next (All-tail Not s ss none) one.2
