-- What is in force stays in range, statement after statement.
use Rattle.std.proofs.Common.{◌≡◌, ℕ, ℤ, pos, negsuc, ◌≤◌, ◌<◌, ◌+◌, ◌/◌, ◌%◌, ◌==◌, Bool, true, false, cond, List, [], ◌∷◌, ◌++◌, length, Option, Some, None, Result, Ok, Err, refl, ap, ◌∙◌, subst, arith, All}
use Rattle.std.specs.Prelude.{nat_le, nat_lt, ◌&&◌, codes, sum_by}
use Rattle.std.specs.Result.{result_unwrap_or}
use Rattle.std.proofs.lemmas.Bool.{and_parts}
use Rattle.std.proofs.lemmas.Bool.Decides.{nat_tests}
use Rattle.std.proofs.lemmas.List.{length-append}
use Rattle.std.proofs.lemmas.List.Elements.{All-nil, All-push}
use Rattle.std.proofs.lemmas.List.Sums.{sum_by_push}
use Rattle.page_model.specs.declared.parts.Ink.{Ink}
use Rattle.page_model.specs.declared.parts.Limit.{Limit}
use Rattle.page_model.specs.declared.parts.TrapParams.{TrapParams}
use Rattle.page_model.specs.declared.parts.Vertex.{Vertex}
use Rattle.page_model.specs.declared.parts.Zone.{Zone}
use Rattle.page_model.specs.Conditions.{AreLimits, IsInk, IsVertex, IsZone}
use Rattle.page_model.specs.Parameters.{InRange}
use Rattle.ps_tokens.specs.declared.faults.FaultKind.{FaultKind}
use Rattle.ps_tokens.specs.declared.faults.FaultKind.TheVariants.{BadResolution, TooManyVertices, TooManyZones, WrongOperands}
use Rattle.ps_tokens.specs.declared.faults.JobFault.{JobFault}
use Rattle.ps_tokens.specs.declared.parameters.Key.TheVariants.{Trapping}
use Rattle.ps_tokens.specs.declared.object.Object.{Object}
use Rattle.ps_tokens.specs.Dictionaries.{last_of}
use Rattle.ps_tokens.specs.EntryErrors.{error_of, earlier}
use Rattle.ps_tokens.specs.Values.{value_at}
use Rattle.ps_tokens.proofs.Judged.{value_at-reads, unwrap-reads}
use Rattle.job_parts.specs.Applied.{params_after}
use Rattle.job_parts.specs.Limits.{limits_after}
use Rattle.job_parts.specs.Settings.{boolean_after}
use Rattle.job_parts.specs.Details.{details_of}
use Rattle.job_parts.specs.declared.pen.Pen.{Pen}
use Rattle.job_parts.specs.Paths.{Drawing, IsDrawing, IsPen, nothing_drawn, moveto, lineto, rmoveto, rlineto, closepath, closed_pen, from_pen, begun_at, lined_to, offset_point}
use Rattle.job_parts.proofs.Drawings.{begun_at-drawing, lined_to-drawing}
use Rattle.job_reader.specs.declared.operators.Operator.{Operator}
use Rattle.job_reader.specs.declared.operators.Operator.TheVariants.{SetPageDevice, SetTrapParams, NewPath, ClosePath, MoveTo, LineTo, RelativeMoveTo, RelativeLineTo, SetTrapZone, ShowPage}
use Rattle.job_reader.specs.declared.state.State.{State}
use Rattle.job_reader.specs.Device.{is_array, pixels_in, pixels_of, equal_pixels, resolution_in, resolution_after, named_details, details_at, details_in, details_or, device_set}
use Rattle.job_reader.specs.Operands.{is_one_dict, number_at, two_numbers}
use Rattle.job_reader.specs.Starts.{nothing_read}
use Rattle.job_reader.specs.Statements.{both_set, path_drawn, fault, state_after, params_set, with_numbers, zone_made, zone_of}
use Rattle.job_reader.proofs.ParamRanges.{unless-is, params_after-in_range}
use Rattle.job_reader.proofs.LimitRanges.{limits_after-limits}
use Rattle.job_reader.proofs.DetailRanges.{details_of-ranges}
use Rattle.page_model.specs.Limits.{most_job_zones, most_vertices_in_all}

-- what is in force, each in its range, and the zones so far
pub record IsState (now : State) : Type 0 where
  pub params : InRange now.params
  pub limits : AreLimits now.limits
  pub fine : now.resolution ≤ 10000
  pub details : All IsInk now.details
  pub path : IsDrawing now.path
  pub zones : All IsZone now.zones
  pub few_zones : length now.zones ≤ 250
  pub counted : sum_by (λ (z : Zone). length z.path) now.zones ≡ now.vertices
  pub few_vertices : now.vertices ≤ 16384

-- what is left in force, or a fault
abbrev Leaves : Result State JobFault → Type 0
Leaves r = (next : State) → r ≡ Ok next → IsState next

leaves : (now : State) → IsState now → Leaves (Ok now)
leaves now is next same = let e : now ≡ next = cc in subst (λ (s : State). IsState s) e is

faulty : (kind : FaultKind) (at : ℕ) → Leaves (fault kind at)
faulty kind at next is = absurd (cc)

guarded : (b : Bool) (r : Result State JobFault) (kind : FaultKind) (at : ℕ) → Leaves r → Leaves (cond b r (fault kind at))
guarded true r kind at gives = gives
guarded false r kind at gives = faulty kind at

-- Resolutions.

fine_if : (b : Bool) (m n : ℕ) → ((m % 10000 == 0) && nat_le 10000 m && nat_le m 100000000) ≡ b → cond b (Some (m / 10000)) None ≡ Some n → n ≤ 10000
fine_if true m n tests is =
    let same : m / 10000 ≡ n = cc in
    let both = and_parts ((m % 10000 == 0) && nat_le 10000 m) (nat_le m 100000000) tests in
    let high : nat_le m 100000000 ≡ true = both.1 in
    let most : m ≤ 100000000 = grind (arith, nat_tests) in
    omega arith
fine_if false m n tests is = absurd (cc)

pixels_in-fine : (z : ℤ) (n : ℕ) → pixels_in z ≡ Some n → n ≤ 10000
pixels_in-fine (pos m) n is = fine_if ((m % 10000 == 0) && nat_le 10000 m && nat_le m 100000000) m n refl is
pixels_in-fine (negsuc m) n is = absurd (cc)

pixels_of-fine : (o : Option ℤ) (n : ℕ) → pixels_of o ≡ Some n → n ≤ 10000
pixels_of-fine None n is = absurd (cc)
pixels_of-fine (Some z) n is = pixels_in-fine z n is

equal_if : (b : Bool) (x n : ℕ) → cond b (Ok x) (Err BadResolution) ≡ Ok n → x ≡ n
equal_if true x n is = cc
equal_if false x n is = absurd (cc)

equal_pixels-fine : (x y : Option ℕ) (n : ℕ) → ((m : ℕ) → x ≡ Some m → m ≤ 10000) → equal_pixels x y ≡ Ok n → n ≤ 10000
equal_pixels-fine None y n fine is = absurd (cc)
equal_pixels-fine (Some x) None n fine is = absurd (cc)
equal_pixels-fine (Some x) (Some y) n fine is = let same = equal_if (x == y) x n is in let small = fine x refl in omega arith

array_if : (b : Bool) (objects : List Object) (place n : ℕ) → cond b (equal_pixels (pixels_of (number_at objects (place + 1))) (pixels_of (number_at objects (place + 2)))) (Err BadResolution) ≡ Ok n → n ≤ 10000
array_if true objects place n is = equal_pixels-fine (pixels_of (number_at objects (place + 1))) (pixels_of (number_at objects (place + 2))) n (λ m. pixels_of-fine (number_at objects (place + 1)) m) is
array_if false objects place n is = absurd (cc)

resolution_after-fine : (objects : List Object) (dict now : ℕ) → now ≤ 10000 → result_unwrap_or (resolution_after objects dict now) now ≤ 10000
unfolding resolution_after
resolution_after-fine objects dict now here =
    let P : ℕ → Type 0 = λ n. n ≤ 10000 in
    let place = last_of objects dict (codes "HWResolution") in
    unwrap-reads P (value_at (resolution_in objects) objects now place) now
    (value_at-reads P (resolution_in objects) objects now place (λ at object n. array_if (is_array object.body && (object.inside == 2)) objects at n) here) here

-- Details.

named-inks : (place : ℕ) (r : Result (List Ink) JobFault) (now : List Ink) → ((inks : List Ink) → r ≡ Ok inks → All IsInk inks) → All IsInk now → All IsInk (details_or (named_details place r) now)
named-inks place (Ok inks) now are here = are inks refl
named-inks place (Err fault) now are here = here

details_at-inks : (objects : List Object) (place : Option ℕ) (now : List Ink) → All IsInk now → All IsInk (details_or (details_at objects place) now)
details_at-inks objects None now here = here
details_at-inks objects (Some place) now here = named-inks place (details_of objects place) now (λ inks. details_of-ranges objects place inks) here

details_in-inks : (objects : List Object) (dict : ℕ) (now : List Ink) → All IsInk now → All IsInk (details_or (details_in objects dict) now)
unfolding details_in
details_in-inks objects dict now here = details_at-inks objects (last_of objects dict (codes "TrappingDetails")) now here

-- `setpagedevice`
device_set-leaves : (objects : List Object) (dict : ℕ) (now : State) → IsState now → Leaves (device_set objects dict now)
device_set-leaves objects dict now here next is =
    let resolution = resolution_after objects dict now.resolution in
    let trapping = boolean_after objects dict Trapping now.trapping in
    let details = details_in objects dict in
    let set : State = record now { resolution = result_unwrap_or resolution now.resolution; trapping = result_unwrap_or trapping now.trapping; details = details_or details now.details } in
    let same : set ≡ next = unless-is (earlier (error_of resolution) (earlier (error_of trapping) (error_of details))) set next is in
    subst (λ (s : State). IsState s) same (record { params = here.params; limits = here.limits; fine = resolution_after-fine objects dict now.resolution here.fine; details = details_in-inks objects dict now.details here.details; path = here.path; zones = here.zones; few_zones = here.few_zones; counted = here.counted; few_vertices = here.few_vertices })

-- `settrapparams`
both_set-leaves : (params : Result TrapParams JobFault) (limits : Result (List Limit) JobFault) (now : State) → IsState now → ((p : TrapParams) → params ≡ Ok p → InRange p) → ((l : List Limit) → limits ≡ Ok l → AreLimits l) → Leaves (both_set params limits now)
both_set-leaves (Ok p) (Ok l) now here ranged once = leaves (record now { params = p; limits = l }) (record { params = ranged p refl; limits = once l refl; fine = here.fine; details = here.details; path = here.path; zones = here.zones; few_zones = here.few_zones; counted = here.counted; few_vertices = here.few_vertices })
both_set-leaves (Ok p) (Err second) now here ranged once = λ next is. absurd (cc)
both_set-leaves (Err first) (Ok l) now here ranged once = λ next is. absurd (cc)
both_set-leaves (Err first) (Err second) now here ranged once = λ next is. absurd (cc)

params_set-leaves : (objects : List Object) (dict : ℕ) (now : State) → IsState now → Leaves (params_set objects dict now)
params_set-leaves objects dict now here =
    both_set-leaves (params_after now.params objects dict) (limits_after now.limits objects dict) now here
    (λ p. params_after-in_range now.params p objects dict here.params) (λ l. limits_after-limits now.limits objects dict l here.limits)

-- Paths.

-- a path that statements draw, or a fault
abbrev Draws : Result Drawing FaultKind → Type 0
Draws r = (d : Drawing) → r ≡ Ok d → IsDrawing d

nothing-drawing : IsDrawing nothing_drawn
nothing-drawing = record { path = record { begun = refl; few = omega arith; near = All-nil IsVertex }; pen = tt }

closed-pen : (vertices : List Vertex) (pen : Option Pen) → IsPen vertices pen → IsPen vertices (closed_pen pen)
closed-pen vertices None is = is
closed-pen vertices (Some pen) is = (is.0, is.0, is.2)

closepath-drawing : (d : Drawing) → IsDrawing d → IsDrawing (closepath d)
closepath-drawing d is = record { path = is.path; pen = closed-pen d.vertices d.pen is.pen }

from_pen-draws : (vertices : List Vertex) (pen : Option Pen) (draw : Pen → Result Drawing FaultKind) → IsPen vertices pen → ((p : Pen) → IsPen vertices (Some p) → Draws (draw p)) → Draws (from_pen pen draw)
from_pen-draws vertices None draw is draws = λ d same. absurd (cc)
from_pen-draws vertices (Some p) draw is draws = draws p is

-- another path
with_path : (now : State) (d : Drawing) → IsState now → IsDrawing d → IsState (record now { path = d })
with_path now d here is = record { params = here.params; limits = here.limits; fine = here.fine; details = here.details; path = is; zones = here.zones; few_zones = here.few_zones; counted = here.counted; few_vertices = here.few_vertices }

path_drawn-leaves : (at : ℕ) (now : State) (r : Result Drawing FaultKind) → IsState now → Draws r → Leaves (path_drawn at now r)
path_drawn-leaves at now (Ok d) here draws = leaves (record now { path = d }) (with_path now d here (draws d refl))
path_drawn-leaves at now (Err kind) here draws = faulty kind at

with_numbers-leaves : (at : ℕ) (o : Option (ℤ × ℤ)) (draw : ℤ → ℤ → Result State JobFault) → ((x y : ℤ) → Leaves (draw x y)) → Leaves (with_numbers at o draw)
with_numbers-leaves at None draw gives = faulty WrongOperands at
with_numbers-leaves at (Some p) draw gives = gives p.0 p.1

moveto-draws : (x y : ℤ) (d : Drawing) → IsDrawing d → Draws (moveto x y d)
moveto-draws x y d is after same = begun_at-drawing d.vertices (record { x = x; y = y }) after is.path same

rmoveto-draws : (x y : ℤ) (d : Drawing) → IsDrawing d → Draws (rmoveto x y d)
rmoveto-draws x y d is = from_pen-draws d.vertices d.pen (λ pen. begun_at d.vertices (offset_point pen.at x y)) is.pen (λ pen suffix after same. begun_at-drawing d.vertices (offset_point pen.at x y) after is.path same)

lineto-draws : (x y : ℤ) (d : Drawing) → IsDrawing d → Draws (lineto x y d)
lineto-draws x y d is = from_pen-draws d.vertices d.pen (λ pen. lined_to d.vertices pen (record { x = x; y = y })) is.pen (λ pen suffix after same. lined_to-drawing d.vertices pen (record { x = x; y = y }) after is.path suffix same)

rlineto-draws : (x y : ℤ) (d : Drawing) → IsDrawing d → Draws (rlineto x y d)
rlineto-draws x y d is = from_pen-draws d.vertices d.pen (λ pen. lined_to d.vertices pen (offset_point pen.at x y)) is.pen (λ pen suffix after same. lined_to-drawing d.vertices pen (offset_point pen.at x y) after is.path suffix same)

-- Zones.

zone_of-zone : (now : State) → IsState now → IsZone (zone_of now)
zone_of-zone now here = record { params = here.params; path = here.path.path; limits = here.limits }

one_more : (now : State) → IsState now → nat_le most_job_zones (length now.zones) ≡ false → nat_lt most_vertices_in_all (now.vertices + length now.path.vertices) ≡ false
    → IsState (record now { zones = now.zones ++ zone_of now ∷ []; path = nothing_drawn; vertices = now.vertices + length now.path.vertices })
one_more now here workspace vertices =
    let few : length now.zones < 250 = grind (arith, nat_tests) in
    let fit : now.vertices + length now.path.vertices ≤ 16384 = grind (arith, nat_tests) in
    let longer = length-append now.zones (zone_of now ∷ []) in
    let counted = here.counted in
    let more = sum_by_push (λ (z : Zone). length z.path) now.zones (zone_of now) in
    record {
      params = here.params;
      limits = here.limits;
      fine = here.fine;
      details = here.details;
      path = nothing-drawing;
      zones = All-push IsZone now.zones (zone_of now) here.zones (zone_of-zone now here);
      few_zones = omega (arith, longer);
      counted = more ∙ ap (λ n. n + length now.path.vertices) counted;
      few_vertices = fit;
    }

fits_if : (b : Bool) (at : ℕ) (now : State) → IsState now → nat_le most_job_zones (length now.zones) ≡ false → nat_lt most_vertices_in_all (now.vertices + length now.path.vertices) ≡ b
    → Leaves (cond b (fault TooManyVertices at) (Ok (record now { zones = now.zones ++ zone_of now ∷ []; path = nothing_drawn; vertices = now.vertices + length now.path.vertices })))
fits_if true at now here workspace vertices = faulty TooManyVertices at
fits_if false at now here workspace vertices = leaves _ (one_more now here workspace vertices)

workspace_if : (b : Bool) (at : ℕ) (now : State) → IsState now → nat_le most_job_zones (length now.zones) ≡ b
    → Leaves (cond b (fault TooManyZones at) (cond (nat_lt most_vertices_in_all (now.vertices + length now.path.vertices)) (fault TooManyVertices at) (Ok (record now { zones = now.zones ++ zone_of now ∷ []; path = nothing_drawn; vertices = now.vertices + length now.path.vertices }))))
workspace_if true at now here workspace = faulty TooManyZones at
workspace_if false at now here workspace = fits_if (nat_lt most_vertices_in_all (now.vertices + length now.path.vertices)) at now here workspace refl

zone_made-leaves : (at : ℕ) (now : State) → IsState now → Leaves (zone_made at now)
zone_made-leaves at now here = workspace_if (nat_le most_job_zones (length now.zones)) at now here refl

-- each statement
pub state_after-leaves : (objects : List Object) (from place at : ℕ) (operator : Operator) (now : State) → IsState now → Leaves (state_after objects from place at operator now)
unfolding state_after
state_after-leaves objects from place at SetPageDevice now here = guarded (is_one_dict objects from place) (device_set objects from now) WrongOperands at (device_set-leaves objects from now here)
state_after-leaves objects from place at SetTrapParams now here = guarded (is_one_dict objects from place) (params_set objects from now) WrongOperands at (params_set-leaves objects from now here)
state_after-leaves objects from place at NewPath now here = guarded (from == place) (Ok (record now { path = nothing_drawn })) WrongOperands at (leaves (record now { path = nothing_drawn }) (with_path now nothing_drawn here nothing-drawing))
state_after-leaves objects from place at ClosePath now here = guarded (from == place) (Ok (record now { path = closepath now.path })) WrongOperands at (leaves (record now { path = closepath now.path }) (with_path now (closepath now.path) here (closepath-drawing now.path here.path)))
state_after-leaves objects from place at MoveTo now here = with_numbers-leaves at (two_numbers objects from place) (λ x y. path_drawn at now (moveto x y now.path)) (λ x y. path_drawn-leaves at now (moveto x y now.path) here (moveto-draws x y now.path here.path))
state_after-leaves objects from place at LineTo now here = with_numbers-leaves at (two_numbers objects from place) (λ x y. path_drawn at now (lineto x y now.path)) (λ x y. path_drawn-leaves at now (lineto x y now.path) here (lineto-draws x y now.path here.path))
state_after-leaves objects from place at RelativeMoveTo now here = with_numbers-leaves at (two_numbers objects from place) (λ x y. path_drawn at now (rmoveto x y now.path)) (λ x y. path_drawn-leaves at now (rmoveto x y now.path) here (rmoveto-draws x y now.path here.path))
state_after-leaves objects from place at RelativeLineTo now here = with_numbers-leaves at (two_numbers objects from place) (λ x y. path_drawn at now (rlineto x y now.path)) (λ x y. path_drawn-leaves at now (rlineto x y now.path) here (rlineto-draws x y now.path here.path))
state_after-leaves objects from place at SetTrapZone now here = guarded (from == place) (zone_made at now) WrongOperands at (zone_made-leaves at now here)
state_after-leaves objects from place at ShowPage now here = leaves now here

-- before the first statement
pub nothing_read-state : IsState nothing_read
nothing_read-state = record {
  params = grind arith;
  limits = record { once = λ i j d lt within. absurd (omega arith); steps = All-nil (λ (l : Limit). l.step ≤ 10000) };
  fine = omega arith;
  details = All-nil IsInk;
  path = nothing-drawing;
  zones = All-nil IsZone;
  few_zones = omega arith;
  counted = refl;
  few_vertices = omega arith;
}
