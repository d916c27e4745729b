-- What each statement of a job does to what is in force.
use Rattle.std.specs.Prelude.{ℕ, ℤ, Bool, List, [], ◌∷◌, ◌++◌, length, map, Option, Some, None}
use Rattle.std.specs.Prelude.{Result, Ok, Err, slice_get, nat_le, nat_lt, ◌+◌, ◌==◌, ◌&&◌, ◌||◌}
use Rattle.std.specs.Prelude.{if◌then◌else◌}
use Rattle.page_model.specs.declared.parts.Limit.{Limit}
use Rattle.page_model.specs.declared.parts.TrapParams.{TrapParams}
use Rattle.page_model.specs.declared.parts.Zone.{Zone}
use Rattle.ps_tokens.specs.declared.faults.FaultKind.{FaultKind}
use Rattle.ps_tokens.specs.declared.faults.FaultKind.TheVariants.{WrongOperands, TooManyVertices}
use Rattle.ps_tokens.specs.declared.faults.FaultKind.TheVariants.{TooManyZones, NoPageDevice}
use Rattle.ps_tokens.specs.declared.faults.FaultKind.TheVariants.{AfterShowpage}
use Rattle.ps_tokens.specs.declared.faults.JobFault.{JobFault}
use Rattle.ps_tokens.specs.declared.object.Object.{Object}
use Rattle.job_parts.specs.Applied.{params_after}
use Rattle.job_parts.specs.Limits.{limits_after}
use Rattle.job_parts.specs.Paths.{Drawing, nothing_drawn, moveto, lineto, rmoveto, rlineto}
use Rattle.job_parts.specs.Paths.{closepath}
use Rattle.job_reader.specs.declared.job.Job.{Job}
use Rattle.job_reader.specs.declared.drawing.Stroke.{Stroke}
use Rattle.job_reader.specs.declared.drawing.Stroke.TheVariants as strokes
use Rattle.job_reader.specs.declared.operators.Operator.{Operator}
use Rattle.job_reader.specs.declared.operators.Operator.TheVariants.{SetPageDevice, SetTrapParams}
use Rattle.job_reader.specs.declared.operators.Operator.TheVariants.{NewPath, ClosePath, MoveTo}
use Rattle.job_reader.specs.declared.operators.Operator.TheVariants.{LineTo, RelativeMoveTo}
use Rattle.job_reader.specs.declared.operators.Operator.TheVariants.{RelativeLineTo, SetTrapZone}
use Rattle.job_reader.specs.declared.operators.Operator.TheVariants.{ShowPage}
use Rattle.job_reader.specs.declared.state.State.{State}
use Rattle.job_reader.specs.Device.{device_set}
use Rattle.job_reader.specs.Operands.{is_one_dict, two_numbers}
use Rattle.page_model.specs.Limits.{most_job_zones, most_vertices_in_all}

-- a fault of that kind at an offset
abbrev pub fault : {X : Type 0} → FaultKind → ℕ → Result X JobFault
fault kind at = Err (record { kind = kind; at = at })

-- parameters and limits, set together; of two faults the one with the lesser offset
abbrev pub both_set : Result TrapParams JobFault → Result (List Limit) JobFault → State
    → Result State JobFault
both_set (Ok params) (Ok limits) now = Ok (record now { params = params; limits = limits })
both_set (Ok params) (Err second) now = Err second
both_set (Err first) (Ok limits) now = Err first
both_set (Err first) (Err second) now = Err (if nat_lt second.at first.at then second else first)

-- `dict settrapparams`
abbrev pub params_set : List Object → ℕ → State → Result State JobFault
params_set objects dict now =
    both_set (params_after now.params objects dict) (limits_after now.limits objects dict) now

-- a path statement at an offset
abbrev pub path_drawn : ℕ → State → Result Drawing FaultKind → Result State JobFault
path_drawn at now (Ok path) = Ok (record now { path = path })
path_drawn at now (Err kind) = fault kind at

-- what a stroke with two numbers draws on a path
abbrev pub stroke_on : Stroke → ℤ → ℤ → Drawing → Result Drawing FaultKind
stroke_on strokes.MoveTo x y path = moveto x y path
stroke_on strokes.LineTo x y path = lineto x y path
stroke_on strokes.RelativeMoveTo x y path = rmoveto x y path
stroke_on strokes.RelativeLineTo x y path = rlineto x y path

-- with two numbers as operands
abbrev pub with_numbers : ℕ → Option (ℤ × ℤ) → (ℤ → ℤ → Result State JobFault)
    → Result State JobFault
with_numbers at None draw = fault WrongOperands at
with_numbers at (Some p) draw = draw p.0 p.1

-- the zone that `settrapzone` makes
abbrev pub zone_of : State → Zone
zone_of now = record { params = now.params; path = now.path.vertices; limits = now.limits }

-- `settrapzone` at an offset: at most 250 zones, with at most 16,384 vertices together; the path
-- is then empty
abbrev pub zone_made : ℕ → State → Result State JobFault
zone_made at now =
    if nat_le most_job_zones (length now.zones) then fault TooManyZones at
    else (if nat_lt most_vertices_in_all (now.vertices + length now.path.vertices)
    then fault TooManyVertices at
    else Ok (record now {
      zones = now.zones ++ zone_of now ∷ [];
      path = nothing_drawn;
      vertices = now.vertices + length now.path.vertices;
    }))

-- a statement other than `showpage`: its operands stand from one place to another, and its
-- operator at an offset
unfoldable pub state_after : List Object → ℕ → ℕ → ℕ → Operator → State → Result State JobFault
state_after objects from place at SetPageDevice now =
    if is_one_dict objects from place then device_set objects from now else fault WrongOperands at
state_after objects from place at SetTrapParams now =
    if is_one_dict objects from place then params_set objects from now else fault WrongOperands at
state_after objects from place at NewPath now =
    if from == place then Ok (record now { path = nothing_drawn }) else fault WrongOperands at
state_after objects from place at ClosePath now =
    if from == place then Ok (record now { path = closepath now.path }) else fault WrongOperands at
state_after objects from place at MoveTo now = with_numbers at (two_numbers objects from place)
    (λ x y. path_drawn at now (moveto x y now.path))
state_after objects from place at LineTo now = with_numbers at (two_numbers objects from place)
    (λ x y. path_drawn at now (lineto x y now.path))
state_after objects from place at RelativeMoveTo now = with_numbers at
    (two_numbers objects from place) (λ x y. path_drawn at now (rmoveto x y now.path))
state_after objects from place at RelativeLineTo now = with_numbers at
    (two_numbers objects from place) (λ x y. path_drawn at now (rlineto x y now.path))
state_after objects from place at SetTrapZone now =
    if from == place then zone_made at now else fault WrongOperands at
state_after objects from place at ShowPage now = Ok now

-- a zone as it is where Trapping is true or false
abbrev pub under_trapping : Bool → Zone → Zone
under_trapping trapping zone =
    record zone { params = record zone.params { enabled = zone.params.enabled && trapping } }

-- zone 0 covers what no zone does, and is enabled only where there is no other
abbrev pub zone_0 : State → Zone
zone_0 now = record {
  params =
      record now.params { enabled = now.params.enabled && now.trapping && (length now.zones == 0) };
  path = [];
  limits = now.limits;
}

-- the job at `showpage`
abbrev pub job_at : State → Job
job_at now =
    record {
      resolution = now.resolution;
      zones = zone_0 now ∷ map (under_trapping now.trapping) now.zones;
      details = now.details;
    }

-- whether a page of this job wants a resolution: a zone was made, or zone 0 is enabled
abbrev pub wants_device : State → Bool
wants_device now = nat_lt 0 (length now.zones) || (now.params.enabled && now.trapping)

-- nothing may stand after `showpage`
abbrev pub after_fault : Option Object → Option JobFault
after_fault None = None
after_fault (Some object) = Some (record { kind = AfterShowpage; at = object.at })

-- the fault of `showpage`, if it has one: its operands stand from one place to another, and it
-- stands at an offset
unfoldable pub shown_fault : List Object → ℕ → ℕ → ℕ → State → Option JobFault
shown_fault objects from place at now =
    if from == place then (if (now.resolution == 0) && wants_device now
    then Some (record { kind = NoPageDevice; at = at })
    else after_fault (slice_get objects (place + 1)))
    else Some (record { kind = WrongOperands; at = at })

-- the job, unless there is a fault
abbrev pub job_unless : Option JobFault → Job → Result Job JobFault
job_unless None job = Ok job
job_unless (Some first) job = Err first

-- `showpage`
abbrev pub job_shown : List Object → ℕ → ℕ → ℕ → State → Result Job JobFault
job_shown objects from place at now =
    job_unless (shown_fault objects from place at now) (job_at now)
