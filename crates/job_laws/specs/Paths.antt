-- The path in force at a statement, stated by the statements that stand before it.
use Rattle.std.specs.Prelude.{ℤ, Bool, true, false, List, [], ◌∷◌, Option, Some, None, Result, fold}
use Rattle.std.specs.Prelude.{unwrap_or, if◌then◌else◌}
use Rattle.std.specs.Option.{option_or}
use Rattle.std.specs.Result.{result_unwrap_or}
use Rattle.ps_tokens.specs.declared.faults.FaultKind.{FaultKind}
use Rattle.ps_tokens.specs.declared.object.Object.{Object}
use Rattle.job_parts.specs.Paths.{Drawing, nothing_drawn, moveto, lineto, rmoveto, rlineto}
use Rattle.job_parts.specs.Paths.{closepath}
use Rattle.job_reader.specs.declared.operators.Operator.{Operator}
use Rattle.job_reader.specs.declared.operators.Operator.TheVariants.{SetPageDevice, SetTrapParams}
use Rattle.job_reader.specs.declared.operators.Operator.TheVariants.{NewPath, ClosePath, MoveTo}
use Rattle.job_reader.specs.declared.operators.Operator.TheVariants.{LineTo, RelativeMoveTo}
use Rattle.job_reader.specs.declared.operators.Operator.TheVariants.{RelativeLineTo, SetTrapZone}
use Rattle.job_reader.specs.declared.operators.Operator.TheVariants.{ShowPage}
use Rattle.job_reader.specs.Calls.{Statement}
use Rattle.job_reader.specs.InForce.{is_by}
use Rattle.job_reader.specs.Operands.{two_numbers}

-- Since when a path is drawn.

-- whether an operator is `newpath` or `settrapzone`, after which the path is empty
abbrev pub empties_path : Operator → Bool
empties_path SetPageDevice = false
empties_path SetTrapParams = false
empties_path NewPath = true
empties_path ClosePath = false
empties_path MoveTo = false
empties_path LineTo = false
empties_path RelativeMoveTo = false
empties_path RelativeLineTo = false
empties_path SetTrapZone = true
empties_path ShowPage = false

-- the statements after the last one that is by one of these operators, if one is
abbrev pub after_last : (Operator → Bool) → List Statement → Option (List Statement)
after_last test [] = None
after_last test (s ∷ ss) =
    option_or (after_last test ss) (if is_by test s.call.operator then Some ss else None)

-- the statements since the path was emptied, all of them where it never was
abbrev pub since_emptied : List Statement → List Statement
since_emptied earlier = unwrap_or (after_last empties_path earlier) earlier

-- What is drawn since then.

-- what two numbers add to a path; a path that may not be drawn stays as it is
abbrev pub extended_by : Option (ℤ × ℤ) → (ℤ → ℤ → Drawing → Result Drawing FaultKind) → Drawing
    → Drawing
extended_by None draw path = path
extended_by (Some p) draw path = result_unwrap_or (draw p.0 p.1 path) path

-- a path, and what a statement by an operator adds to it, where it is a path statement
abbrev pub drawn_by : List Object → Statement → Option Operator → Drawing → Drawing
drawn_by objects s None path = path
drawn_by objects s (Some SetPageDevice) path = path
drawn_by objects s (Some SetTrapParams) path = path
drawn_by objects s (Some NewPath) path = path
drawn_by objects s (Some ClosePath) path = closepath path
drawn_by objects s (Some MoveTo) path =
    extended_by (two_numbers objects s.from s.place) (λ x y d. moveto x y d) path
drawn_by objects s (Some LineTo) path =
    extended_by (two_numbers objects s.from s.place) (λ x y d. lineto x y d) path
drawn_by objects s (Some RelativeMoveTo) path =
    extended_by (two_numbers objects s.from s.place) (λ x y d. rmoveto x y d) path
drawn_by objects s (Some RelativeLineTo) path =
    extended_by (two_numbers objects s.from s.place) (λ x y d. rlineto x y d) path
drawn_by objects s (Some SetTrapZone) path = path
drawn_by objects s (Some ShowPage) path = path

-- the path that statements draw on another one, one after the other
abbrev pub drawn_on : List Object → Drawing → List Statement → Drawing
drawn_on objects path statements =
    fold (λ d s. drawn_by objects s s.call.operator d) path statements

-- the path in force after statements: what those draw, from nothing, that stand since it was
-- emptied
abbrev pub path_in_force : List Object → List Statement → Drawing
path_in_force objects earlier = drawn_on objects nothing_drawn (since_emptied earlier)
