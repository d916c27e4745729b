-- The operators of the job language.
use Rattle.std.specs.Prelude.{ℕ, List, Option, Some, None, codes, if◌then◌else◌}
use Rattle.std.specs.Str.{bytes_eq}
use Rattle.job_reader.specs.declared.operators.Operator.{Operator}
use Rattle.job_reader.specs.declared.operators.Operator.TheVariants.{SetPageDevice, SetTrapParams}
use Rattle.job_reader.specs.declared.operators.Operator.TheVariants.{NewPath, ClosePath, MoveTo}
use Rattle.job_reader.specs.declared.operators.Operator.TheVariants.{LineTo, RelativeMoveTo}
use Rattle.job_reader.specs.declared.operators.Operator.TheVariants.{RelativeLineTo, SetTrapZone}
use Rattle.job_reader.specs.declared.operators.Operator.TheVariants.{ShowPage}

-- the operator of a name, if there is one
unfoldable pub operator_named : List ℕ → Option Operator
operator_named name =
    if bytes_eq name (codes "moveto") then Some MoveTo
    else (if bytes_eq name (codes "lineto") then Some LineTo
    else (if bytes_eq name (codes "rmoveto") then Some RelativeMoveTo
    else (if bytes_eq name (codes "rlineto") then Some RelativeLineTo
    else (if bytes_eq name (codes "closepath") then Some ClosePath
    else (if bytes_eq name (codes "newpath") then Some NewPath
    else (if bytes_eq name (codes "settrapzone") then Some SetTrapZone
    else (if bytes_eq name (codes "settrapparams") then Some SetTrapParams
    else (if bytes_eq name (codes "setpagedevice") then Some SetPageDevice
    else (if bytes_eq name (codes "showpage") then Some ShowPage
    else None)))))))))
