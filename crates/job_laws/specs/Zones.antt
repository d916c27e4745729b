-- The zones that statements make.
use Rattle.std.specs.Prelude.{ℕ, count_by, Bool, true, false, List, [], ◌∷◌, ◌++◌, map}
use Rattle.std.specs.Prelude.{if◌then◌else◌}
use Rattle.page_model.specs.declared.parts.Zone.{Zone}
use Rattle.ps_tokens.specs.declared.object.Object.{Object}
use Rattle.job_reader.specs.declared.operators.Operator.{Operator}
use Rattle.job_reader.specs.declared.operators.Operator.TheVariants.{SetPageDevice, SetTrapParams}
use Rattle.job_reader.specs.declared.operators.Operator.TheVariants.{NewPath, ClosePath, MoveTo}
use Rattle.job_reader.specs.declared.operators.Operator.TheVariants.{LineTo, RelativeMoveTo}
use Rattle.job_reader.specs.declared.operators.Operator.TheVariants.{RelativeLineTo, SetTrapZone}
use Rattle.job_reader.specs.declared.operators.Operator.TheVariants.{ShowPage}
use Rattle.job_reader.specs.Calls.{Statement}
use Rattle.job_reader.specs.InForce.{is_by, params_in_force, limits_in_force}
use Rattle.job_laws.specs.Paths.{path_in_force}

-- whether an operator is `settrapzone`
abbrev pub is_settrapzone : Operator → Bool
is_settrapzone SetPageDevice = false
is_settrapzone SetTrapParams = false
is_settrapzone NewPath = false
is_settrapzone ClosePath = false
is_settrapzone MoveTo = false
is_settrapzone LineTo = false
is_settrapzone RelativeMoveTo = false
is_settrapzone RelativeLineTo = false
is_settrapzone SetTrapZone = true
is_settrapzone ShowPage = false

-- how many of these statements are `settrapzone`
abbrev pub zones_among : List Statement → ℕ
zones_among statements =
    count_by (λ (s : Statement). is_by is_settrapzone s.call.operator) statements

-- for each statement by one of these operators, in their order, the statements that stand before
-- it, where some stand
-- before all of them
abbrev pub before_each : (Operator → Bool) → List Statement → List Statement → List (List Statement)
before_each test before [] = []
before_each test before (s ∷ ss) =
    if is_by test s.call.operator then before ∷ before_each test (before ++ s ∷ []) ss
    else before_each test (before ++ s ∷ []) ss

-- the zone of a `settrapzone` after statements: the path in force there, with the parameters
-- and the limits in force there
abbrev pub zone_after : List Object → List Statement → Zone
zone_after objects earlier = record {
  params = params_in_force objects earlier;
  path = (path_in_force objects earlier).vertices;
  limits = limits_in_force objects earlier;
}

-- the zones in force after statements: that of each `settrapzone` among them, in their order
abbrev pub zones_in_force : List Object → List Statement → List Zone
zones_in_force objects earlier = map (zone_after objects) (before_each is_settrapzone [] earlier)
