-- The loops of pass_rows: asks plate c for each row that is left, and closes the row that lies
-- `radius` above it.
use Rattle.std.proofs.Common.{◌≡◌, ℕ, ◌+◌, ◌*◌, min, List}
use Rattle.page_model.specs.Shapes.{wide, tall}
use Rattle.misregister.specs.Sweep.{HasWorkspace, IsUnderWay, KeepsMemory}
use Rattle.misregister.proofs.plate.pass_rows.Given as goal

abbrev pub invariant-loop-y : goal.invariant-loop-y
invariant-loop-y g l = record {
  workspace : HasWorkspace l.sheet l.workspace;
  memory : KeepsMemory l.initial.workspace l.workspace;
  way : (older : List ℕ) → IsUnderWay l.sheet l.radius l.c older l.initial.workspace (min l.radius (tall l.sheet)) 0 → IsUnderWay l.sheet l.radius l.c older l.workspace (l.y + min l.radius (tall l.sheet)) l.y;
  steps : l.steps ≡ l.initial.steps + wide l.sheet * l.y;
}
