-- What one statement does to the path and the zones.
use Rattle.std.proofs.Common.{◌≡◌, ℕ, ℤ, ◌==◌, ◌+◌, ◌++◌, Bool, true, false, cond, List, [], ◌∷◌, length, Option, Some, None, Result, Ok, Err, refl, subst}
use Rattle.std.specs.Prelude.{nat_le, nat_lt}
use Rattle.std.specs.Result.{result_unwrap_or}
use Rattle.page_model.specs.declared.parts.Limit.{Limit}
use Rattle.page_model.specs.declared.parts.TrapParams.{TrapParams}
use Rattle.ps_tokens.specs.declared.faults.FaultKind.{FaultKind}
use Rattle.ps_tokens.specs.declared.faults.FaultKind.TheVariants.{TooManyVertices, TooManyZones, WrongOperands}
use Rattle.ps_tokens.specs.declared.faults.JobFault.{JobFault}
use Rattle.ps_tokens.specs.declared.parameters.Key.TheVariants.{Trapping}
use Rattle.ps_tokens.specs.declared.object.Object.{Object}
use Rattle.ps_tokens.specs.EntryErrors.{error_of, earlier}
use Rattle.job_parts.specs.Applied.{params_after}
use Rattle.job_parts.specs.Limits.{limits_after}
use Rattle.job_parts.specs.Settings.{boolean_after}
use Rattle.job_parts.specs.Paths.{Drawing, nothing_drawn, moveto, lineto, rmoveto, rlineto, closepath}
use Rattle.job_reader.specs.declared.operators.Operator.{Operator}
use Rattle.job_reader.specs.declared.operators.Operator.TheVariants.{SetPageDevice, SetTrapParams, NewPath, ClosePath, MoveTo, LineTo, RelativeMoveTo, RelativeLineTo, SetTrapZone, ShowPage}
use Rattle.job_reader.specs.declared.state.State.{State}
use Rattle.job_reader.specs.Calls.{Statement}
use Rattle.job_reader.specs.Device.{details_in, details_or, device_set, resolution_after}
use Rattle.job_reader.specs.InForce.{after_one, is_by}
use Rattle.job_reader.specs.Operands.{is_one_dict, two_numbers}
use Rattle.job_reader.specs.Statements.{both_set, path_drawn, fault, params_set, state_after, with_numbers, zone_made, zone_of}
use Rattle.job_reader.proofs.ParamRanges.{unless-is}
use Rattle.job_reader.proofs.Setting.{guarded}
use Rattle.job_laws.specs.Paths.{empties_path, extended_by, drawn_by}
use Rattle.job_laws.specs.Zones.{is_settrapzone}
use Rattle.page_model.specs.Limits.{most_job_zones, most_vertices_in_all}

-- what a statement leaves of the path and the zones
pub record Steps (objects : List Object) (s : Statement) (o : Option Operator) (now next : State) : Type 0 where
  pub path : next.path ≡ cond (is_by empties_path o) nothing_drawn (drawn_by objects s o now.path)
  pub zones : next.zones ≡ cond (is_by is_settrapzone o) (now.zones ++ zone_of now ∷ []) now.zones

-- the state that is left has a property, if one is left
abbrev Left : (State → Type 0) → Result State JobFault → Type 0
Left P r = (next : State) → r ≡ Ok next → P next

left : (P : State → Type 0) (now : State) → P now → Left P (Ok now)
left P now is next same = let e : now ≡ next = cc in subst P e is

faulty : (P : State → Type 0) (kind : FaultKind) (at : ℕ) → Left P (fault kind at)
faulty P kind at next is = absurd (cc)

-- Dictionaries.

-- the path and the zones stay
record Stays (now next : State) : Type 0 where
  path : next.path ≡ now.path
  zones : next.zones ≡ now.zones

device-stays : (objects : List Object) (dict : ℕ) (now : State) → Left (Stays now) (device_set objects dict now)
device-stays objects dict now next is =
    let resolution = resolution_after objects dict now.resolution in
    let trapping = boolean_after objects dict Trapping now.trapping in
    let details = details_in objects dict in
    let set : State = record now { resolution = result_unwrap_or resolution now.resolution; trapping = result_unwrap_or trapping now.trapping; details = details_or details now.details } in
    let same : set ≡ next = unless-is (earlier (error_of resolution) (earlier (error_of trapping) (error_of details))) set next is in
    subst (Stays now) same (record { path = refl; zones = refl })

both-stay : (params : Result TrapParams JobFault) (limits : Result (List Limit) JobFault) (now : State) → Left (Stays now) (both_set params limits now)
both-stay (Ok p) (Ok l) now next is = left (Stays now) (record now { params = p; limits = l }) (record { path = refl; zones = refl }) next is
both-stay (Ok p) (Err second) now next is = absurd (cc)
both-stay (Err first) (Ok l) now next is = absurd (cc)
both-stay (Err first) (Err second) now next is = absurd (cc)

params-stay : (objects : List Object) (dict : ℕ) (now : State) → Left (Stays now) (params_set objects dict now)
params-stay objects dict now = both-stay (params_after now.params objects dict) (limits_after now.limits objects dict) now

-- Path statements.

path_drawn-left : (P : State → Type 0) (at : ℕ) (now : State) (r : Result Drawing FaultKind) → P (record now { path = result_unwrap_or r now.path }) → Left P (path_drawn at now r)
path_drawn-left P at now (Ok d) is = left P (record now { path = d }) is
path_drawn-left P at now (Err kind) is = faulty P kind at

numbered : (P : State → Type 0) (at : ℕ) (now : State) (draw : ℤ → ℤ → Drawing → Result Drawing FaultKind) (o : Option (ℤ × ℤ))
    → P (record now { path = extended_by o draw now.path }) → Left P (with_numbers at o (λ x y. path_drawn at now (draw x y now.path)))
numbered P at now draw None is = faulty P WrongOperands at
numbered P at now draw (Some p) is = path_drawn-left P at now (draw p.0 p.1 now.path) is

-- `settrapzone`.

fits_if : (P : State → Type 0) (b : Bool) (at : ℕ) (now : State) → P now → Left P (cond b (fault TooManyVertices at) (Ok now))
fits_if P true at now is = faulty P TooManyVertices at
fits_if P false at now is = left P now is

workspace_if : (P : State → Type 0) (b : Bool) (at : ℕ) (r : Result State JobFault) → Left P r → Left P (cond b (fault TooManyZones at) r)
workspace_if P true at r gives = faulty P TooManyZones at
workspace_if P false at r gives = gives

made-left : (P : State → Type 0) (at : ℕ) (now : State) → P (record now { zones = now.zones ++ zone_of now ∷ []; path = nothing_drawn; vertices = now.vertices + length now.path.vertices }) → Left P (zone_made at now)
made-left P at now is =
    let made : State = record now { zones = now.zones ++ zone_of now ∷ []; path = nothing_drawn; vertices = now.vertices + length now.path.vertices } in
    workspace_if P (nat_le most_job_zones (length now.zones)) at (cond (nat_lt most_vertices_in_all (now.vertices + length now.path.vertices)) (fault TooManyVertices at) (Ok made))
    (fits_if P (nat_lt most_vertices_in_all (now.vertices + length now.path.vertices)) at made is)

-- Each statement.

pub one-steps : (objects : List Object) (s : Statement) (o : Option Operator) (now : State) → Left (Steps objects s o now) (after_one objects s o now)
unfolding state_after
one-steps objects s None now next is = absurd (cc)
one-steps objects s (Some SetPageDevice) now next is =
    guarded (Steps objects s (Some SetPageDevice) now) (is_one_dict objects s.from s.place) (device_set objects s.from now) s.call.at
    (λ n set. let stays = device-stays objects s.from now n set in record { path = stays.path; zones = stays.zones }) next is
one-steps objects s (Some SetTrapParams) now next is =
    guarded (Steps objects s (Some SetTrapParams) now) (is_one_dict objects s.from s.place) (params_set objects s.from now) s.call.at
    (λ n set. let stays = params-stay objects s.from now n set in record { path = stays.path; zones = stays.zones }) next is
one-steps objects s (Some NewPath) now next is =
    let P : State → Type 0 = Steps objects s (Some NewPath) now in
    guarded P (s.from == s.place) (Ok (record now { path = nothing_drawn })) s.call.at (left P (record now { path = nothing_drawn }) (record { path = refl; zones = refl })) next is
one-steps objects s (Some ClosePath) now next is =
    let P : State → Type 0 = Steps objects s (Some ClosePath) now in
    guarded P (s.from == s.place) (Ok (record now { path = closepath now.path })) s.call.at (left P (record now { path = closepath now.path }) (record { path = refl; zones = refl })) next is
one-steps objects s (Some MoveTo) now next is =
    numbered (Steps objects s (Some MoveTo) now) s.call.at now (λ x y d. moveto x y d) (two_numbers objects s.from s.place) (record { path = refl; zones = refl }) next is
one-steps objects s (Some LineTo) now next is =
    numbered (Steps objects s (Some LineTo) now) s.call.at now (λ x y d. lineto x y d) (two_numbers objects s.from s.place) (record { path = refl; zones = refl }) next is
one-steps objects s (Some RelativeMoveTo) now next is =
    numbered (Steps objects s (Some RelativeMoveTo) now) s.call.at now (λ x y d. rmoveto x y d) (two_numbers objects s.from s.place) (record { path = refl; zones = refl }) next is
one-steps objects s (Some RelativeLineTo) now next is =
    numbered (Steps objects s (Some RelativeLineTo) now) s.call.at now (λ x y d. rlineto x y d) (two_numbers objects s.from s.place) (record { path = refl; zones = refl }) next is
one-steps objects s (Some SetTrapZone) now next is =
    let P : State → Type 0 = Steps objects s (Some SetTrapZone) now in
    guarded P (s.from == s.place) (zone_made s.call.at now) s.call.at (made-left P s.call.at now (record { path = refl; zones = refl })) next is
one-steps objects s (Some ShowPage) now next is = left (Steps objects s (Some ShowPage) now) now (record { path = refl; zones = refl }) next is
