-- planes_of: goals that the search finds slowly.
use Rattle.std.proofs.Common.{arith}
use Rattle.std.proofs.lemmas.Grind.{common_steps}
use Rattle.sheet_geometry.proofs.planes.planes_of.Goals as goal

pub loop-plane-preserved : goal.loop-plane-preserved
loop-plane-preserved c = grind (arith, common_steps)

pub returns : goal.returns
returns c = grind (arith, common_steps)
