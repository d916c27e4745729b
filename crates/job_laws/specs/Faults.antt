-- The fault of a statement, by what is in force after the statements before it, and the first
-- fault of all.
use Rattle.std.specs.Prelude.{◌≡◌, ◌⊎◌, ℕ, ℤ, Bool, false, List, ◌∷◌, ◌++◌, length, sum_by}
use Rattle.std.specs.Prelude.{slice_get, nat_le, nat_lt, ◌+◌, ◌==◌, ◌&&◌, ◌||◌, Option, Some, None}
use Rattle.std.specs.Prelude.{Result, Ok, Err, if◌then◌else◌}
use Rattle.page_model.specs.declared.parts.Zone.{Zone}
use Rattle.ps_tokens.specs.declared.faults.FaultKind.{FaultKind}
use Rattle.ps_tokens.specs.declared.faults.FaultKind.TheVariants.{UnknownOperator, WrongOperands}
use Rattle.ps_tokens.specs.declared.faults.FaultKind.TheVariants.{TooManyZones, TooManyVertices}
use Rattle.ps_tokens.specs.declared.faults.FaultKind.TheVariants.{NoPageDevice, NoShowpage}
use Rattle.ps_tokens.specs.declared.faults.JobFault.{JobFault}
use Rattle.ps_tokens.specs.declared.object.Object.{Object}
use Rattle.job_parts.specs.Paths.{Drawing, moveto, lineto, rmoveto, rlineto}
use Rattle.job_reader.specs.declared.operators.Operator.{Operator}
use Rattle.job_reader.specs.declared.operators.Operator.TheVariants.{SetPageDevice, SetTrapParams}
use Rattle.job_reader.specs.declared.operators.Operator.TheVariants.{NewPath, ClosePath, MoveTo}
use Rattle.job_reader.specs.declared.operators.Operator.TheVariants.{LineTo, RelativeMoveTo}
use Rattle.job_reader.specs.declared.operators.Operator.TheVariants.{RelativeLineTo, SetTrapZone}
use Rattle.job_reader.specs.declared.operators.Operator.TheVariants.{ShowPage}
use Rattle.job_reader.specs.declared.state.State.{State}
use Rattle.job_reader.specs.Calls.{Statement, is_showpage}
use Rattle.job_reader.specs.Device.{device_set}
use Rattle.job_reader.specs.InForce.{is_by, resolution_in_force, trapping_in_force}
use Rattle.job_reader.specs.InForce.{details_in_force, params_in_force, limits_in_force}
use Rattle.job_reader.specs.Operands.{is_one_dict, two_numbers}
use Rattle.job_reader.specs.Statements.{after_fault, params_set}
use Rattle.job_laws.specs.Paths.{path_in_force}
use Rattle.job_laws.specs.Zones.{zones_in_force}
use Rattle.page_model.specs.Limits.{most_job_zones, most_vertices_in_all}

-- how many vertices the zones in force have together
abbrev pub vertices_in_force : List Object → List Statement → ℕ
vertices_in_force objects earlier =
    sum_by (λ (z : Zone). length z.path) (zones_in_force objects earlier)

-- all that is in force after statements
abbrev pub state_in_force : List Object → List Statement → State
state_in_force objects earlier = record {
  params = params_in_force objects earlier;
  limits = limits_in_force objects earlier;
  resolution = resolution_in_force objects earlier;
  trapping = trapping_in_force objects earlier;
  details = details_in_force objects earlier;
  path = path_in_force objects earlier;
  zones = zones_in_force objects earlier;
  vertices = vertices_in_force objects earlier;
}

-- The fault of one statement.

-- the fault that a result is, if it is one
abbrev pub fault_of : {X : Type 0} → Result X JobFault → Option JobFault
fault_of (Ok x) = None
fault_of (Err fault) = Some fault

-- a fault of this kind at a statement's operator
abbrev pub at_operator : Statement → FaultKind → Option JobFault
at_operator s kind = Some (record { kind = kind; at = s.call.at })

-- the fault of operands that are not exactly the operator's own; else another one, if there is one
abbrev pub unless_wrong : Statement → Bool → Option JobFault → Option JobFault
unless_wrong s fits other = if fits then other else at_operator s WrongOperands

-- the fault of what a path statement draws
abbrev pub drawing_fault : Statement → Result Drawing FaultKind → Option JobFault
drawing_fault s (Ok path) = None
drawing_fault s (Err kind) = at_operator s kind

-- the fault of a path statement with two numbers
abbrev pub stroke_fault : Statement → Option (ℤ × ℤ) → (ℤ → ℤ → Result Drawing FaultKind)
    → Option JobFault
stroke_fault s None draw = at_operator s WrongOperands
stroke_fault s (Some p) draw = drawing_fault s (draw p.0 p.1)

-- the fault of `settrapzone`: zones in force that are as many as may be, or with the path in
-- force too many vertices
abbrev pub zone_fault : List Object → List Statement → Statement → Option JobFault
zone_fault objects earlier s =
    let vertices = vertices_in_force objects earlier
    + length (path_in_force objects earlier).vertices in
    if nat_le most_job_zones (length (zones_in_force objects earlier))
    then at_operator s TooManyZones
    else (if nat_lt most_vertices_in_all vertices then at_operator s TooManyVertices else None)

-- whether a page wants a resolution that ends after statements: a zone is in force, or zone 0
-- is enabled
abbrev pub wants_resolution : List Object → List Statement → Bool
wants_resolution objects earlier =
    nat_lt 0 (length (zones_in_force objects earlier))
    || ((params_in_force objects earlier).enabled && trapping_in_force objects earlier)

-- the fault of `showpage`: no resolution is in force where one is wanted, or an object stands
-- after it
abbrev pub showpage_fault : List Object → List Statement → Statement → Option JobFault
showpage_fault objects earlier s =
    if (resolution_in_force objects earlier == 0) && wants_resolution objects earlier
    then at_operator s NoPageDevice
    else after_fault (slice_get objects (s.place + 1))

-- the fault of a statement by an operator, if it has one
abbrev pub fault_by : List Object → List Statement → Statement → Option Operator → Option JobFault
fault_by objects earlier s None = at_operator s UnknownOperator
fault_by objects earlier s (Some SetPageDevice) =
    unless_wrong s (is_one_dict objects s.from s.place)
    (fault_of (device_set objects s.from (state_in_force objects earlier)))
fault_by objects earlier s (Some SetTrapParams) =
    unless_wrong s (is_one_dict objects s.from s.place)
    (fault_of (params_set objects s.from (state_in_force objects earlier)))
fault_by objects earlier s (Some NewPath) = unless_wrong s (s.from == s.place) None
fault_by objects earlier s (Some ClosePath) = unless_wrong s (s.from == s.place) None
fault_by objects earlier s (Some MoveTo) =
    stroke_fault s (two_numbers objects s.from s.place)
    (λ x y. moveto x y (path_in_force objects earlier))
fault_by objects earlier s (Some LineTo) =
    stroke_fault s (two_numbers objects s.from s.place)
    (λ x y. lineto x y (path_in_force objects earlier))
fault_by objects earlier s (Some RelativeMoveTo) =
    stroke_fault s (two_numbers objects s.from s.place)
    (λ x y. rmoveto x y (path_in_force objects earlier))
fault_by objects earlier s (Some RelativeLineTo) =
    stroke_fault s (two_numbers objects s.from s.place)
    (λ x y. rlineto x y (path_in_force objects earlier))
fault_by objects earlier s (Some SetTrapZone) =
    unless_wrong s (s.from == s.place) (zone_fault objects earlier s)
fault_by objects earlier s (Some ShowPage) =
    unless_wrong s (s.from == s.place) (showpage_fault objects earlier s)

-- the fault of a statement after others, if it has one
abbrev pub fault_after : List Object → List Statement → Statement → Option JobFault
fault_after objects earlier s = fault_by objects earlier s s.call.operator

-- The first fault.

-- none of these statements has a fault, by what is in force after those before it, and none
-- ends the job
abbrev pub AreFaultless : List Object → List Statement → Type 0
AreFaultless objects statements =
    (earlier later : List Statement) (s : Statement) → statements ≡ earlier ++ s ∷ later
    → (is_by is_showpage s.call.operator ≡ false) × (fault_after objects earlier s ≡ None)

-- a statement has this fault, and none before it has one
pub record StandsFirst (objects : List Object) (statements : List Statement)
    (fault : JobFault) : Type 0 where
  pub earlier : List Statement
  pub s : Statement
  pub later : List Statement
  pub cut : statements ≡ earlier ++ s ∷ later
  pub none_before : AreFaultless objects earlier
  pub has : fault_after objects earlier s ≡ Some fault

-- no statement has a fault and none ends the job, which has `len` bytes
pub record RunsOut (objects : List Object) (len : ℕ) (statements : List Statement)
    (fault : JobFault) : Type 0 where
  pub none_at_all : AreFaultless objects statements
  pub is : fault ≡ record { kind = NoShowpage; at = len }

-- the fault of statements
abbrev pub IsFaultOf : List Object → ℕ → List Statement → JobFault → Type 0
IsFaultOf objects len statements fault =
    StandsFirst objects statements fault ⊎ RunsOut objects len statements fault
