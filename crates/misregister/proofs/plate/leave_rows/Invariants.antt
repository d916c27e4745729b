-- The loops of leave_rows: closes the last rows, all rows having been asked.
use Rattle.std.proofs.Common.{ℕ, ◌+◌, ◌≤◌, List}
use Rattle.page_model.specs.Shapes.{tall}
use Rattle.misregister.specs.Sweep.{HasWorkspace, IsUnderWay, KeepsMemory}
use Rattle.misregister.proofs.plate.leave_rows.Given as goal

abbrev pub invariant-loop-y : goal.invariant-loop-y
invariant-loop-y l = record {
  workspace : HasWorkspace l.sheet l.workspace;
  memory : KeepsMemory l.initial.workspace l.workspace;
  way : (radius c : ℕ) (older : List ℕ) → tall l.sheet ≤ l.first + radius → IsUnderWay l.sheet radius c older l.initial.workspace (tall l.sheet) l.first → IsUnderWay l.sheet radius c older l.workspace (tall l.sheet) l.y;
}
