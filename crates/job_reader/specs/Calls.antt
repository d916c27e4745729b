-- The objects of a job, cut at its operators into statements.
use Rattle.std.specs.Prelude.{ℕ, Bool, true, false, List, [], ◌∷◌, Option, Some, None, ◌+◌}
use Rattle.ps_tokens.specs.declared.object.Body.{Body}
use Rattle.ps_tokens.specs.declared.object.Body.TheVariants as bodies
use Rattle.ps_tokens.specs.declared.object.Object.{Object}
use Rattle.job_reader.specs.declared.calls.Call.{Call}
use Rattle.job_reader.specs.declared.operators.Operator.{Operator}
use Rattle.job_reader.specs.declared.operators.Operator.TheVariants.{SetPageDevice, SetTrapParams}
use Rattle.job_reader.specs.declared.operators.Operator.TheVariants.{NewPath, ClosePath, MoveTo}
use Rattle.job_reader.specs.declared.operators.Operator.TheVariants.{LineTo, RelativeMoveTo}
use Rattle.job_reader.specs.declared.operators.Operator.TheVariants.{RelativeLineTo, SetTrapZone}
use Rattle.job_reader.specs.declared.operators.Operator.TheVariants.{ShowPage}
use Rattle.job_reader.specs.Operators.{operator_named}

-- the call that an object at an offset is, if it is one
abbrev pub call_in : ℕ → Body → Option Call
call_in at (bodies.Number n) = None
call_in at (bodies.Truth b) = None
call_in at bodies.Null = None
call_in at bodies.Text = None
call_in at (bodies.Literal name) = None
call_in at (bodies.Operator name) = Some (record { at = at; operator = operator_named name })
call_in at bodies.Array = None
call_in at bodies.Dict = None

abbrev pub call_of : Option Object → Option Call
call_of None = None
call_of (Some object) = call_in object.at object.body

-- whether an operator ends the job
abbrev pub is_showpage : Operator → Bool
is_showpage SetPageDevice = false
is_showpage SetTrapParams = false
is_showpage NewPath = false
is_showpage ClosePath = false
is_showpage MoveTo = false
is_showpage LineTo = false
is_showpage RelativeMoveTo = false
is_showpage RelativeLineTo = false
is_showpage SetTrapZone = false
is_showpage ShowPage = true

-- a statement: its operands are the objects from one place up to another, at which its operator
-- stands
pub record Statement : Type 0 where
  pub from : ℕ
  pub place : ℕ
  pub call : Call

-- a statement that ends at a place and those that follow, or these alone where no operator
-- stands there
abbrev pub cut_at : ℕ → ℕ → Option Call → (ℕ → List Statement) → List Statement
cut_at from place None rest = rest from
cut_at from place (Some call) rest =
    record { from = from; place = place; call = call } ∷ rest (place + 1)

-- the statements of objects that stand from a place on; the operands of the first begin at another
unfoldable pub statements_from : ℕ → ℕ → List Object → List Statement
statements_from from place [] = []
statements_from from place (object ∷ objects) =
    cut_at from place (call_of (Some object)) (λ first. statements_from first (place + 1) objects)

-- the statements of a job's objects
abbrev pub statements_of : List Object → List Statement
statements_of objects = statements_from 0 0 objects
