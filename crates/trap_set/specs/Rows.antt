-- The text of a set row by row, as it is written.
use Rattle.std.specs.Prelude.{ℕ, zero, suc, List, [], ◌++◌, if◌then◌else◌}
use Rattle.page_model.specs.declared.parts.Plane.{Plane}
use Rattle.page_model.specs.Shapes.{wide}
use Rattle.trap_set.specs.Runs.{begins, run_at}
use Rattle.trap_set.specs.SetText.{run_line}

-- the line of the run that begins at a sample, where one does
abbrev pub run_text : List Plane → List Plane → ℕ → ℕ → List ℕ
run_text old new y x = if begins old new x y then run_line (run_at old new x y) else []

-- the lines of the runs that begin at the first samples of a row
abbrev pub row_text : List Plane → List Plane → ℕ → ℕ → List ℕ
row_text old new y zero = []
row_text old new y (suc x) = row_text old new y x ++ run_text old new y x

-- the lines of the first rows
abbrev pub rows_text : List Plane → List Plane → ℕ → List ℕ
rows_text old new zero = []
rows_text old new (suc y) = rows_text old new y ++ row_text old new y (wide old)
