-- The loops of enter_rows: asks plate c for the first rows.
use Rattle.std.proofs.Common.{◌≡◌, ℕ, ◌+◌, ◌*◌, List}
use Rattle.page_model.specs.Shapes.{wide}
use Rattle.misregister.specs.Sweep.{HasWorkspace, IsUnderWay, KeepsMemory}
use Rattle.misregister.proofs.plate.enter_rows.Given as goal

abbrev pub invariant-loop-y : goal.invariant-loop-y
invariant-loop-y g l = record {
  workspace : HasWorkspace l.sheet l.workspace;
  memory : KeepsMemory l.initial.workspace l.workspace;
  way : (older : List ℕ) → IsUnderWay l.sheet l.radius l.c older l.initial.workspace 0 0 → IsUnderWay l.sheet l.radius l.c older l.workspace l.y 0;
  steps : l.steps ≡ l.initial.steps + wide l.sheet * l.y;
}
