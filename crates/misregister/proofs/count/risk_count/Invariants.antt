-- The loops of risk_count: how many samples of the sheet are at risk where each plate shifts by at
-- most `radius` samples to each side.
use Rattle.std.proofs.Common.{◌≡◌, ◌+◌, ◌<◌, ◌*◌, ℕ}
use Rattle.page_model.specs.Shapes.{wide, tall}
use Rattle.misregister.specs.Sweep.{HasWorkspace, KeepsMemory, at, least_shade}
use Rattle.misregister.proofs.count.risk_count.Given as goal

abbrev pub invariant-loop-c : goal.invariant-loop-c
invariant-loop-c g l = record {
  workspace : HasWorkspace l.sheet l.workspace;
  memory : KeepsMemory l.initial.workspace l.workspace;
  shades : (x y : ℕ) → x < wide l.sheet → y < tall l.sheet → at l.workspace.shades.items (wide l.sheet) y x ≡ least_shade l.sheet l.radius x y l.c;
  steps : l.steps ≡ l.initial.steps + l.c * (wide l.sheet * tall l.sheet);
}
