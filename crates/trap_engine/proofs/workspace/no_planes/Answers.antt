-- no_planes: goals that the search finds slowly.
use Rattle.std.proofs.lemmas.Grind.{common_steps}
use Rattle.std.proofs.Common.{arith}
use Rattle.trap_engine.proofs.workspace.no_planes.Goals as goal

pub loop-preserved : goal.loop-preserved
loop-preserved c = grind (arith, common_steps)
