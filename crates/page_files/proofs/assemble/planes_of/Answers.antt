-- planes_of: goals that the search finds slowly.
use Rattle.std.proofs.Common.{arith}
use Rattle.std.proofs.lemmas.Grind.{common_steps}
use Rattle.page_files.proofs.assemble.planes_of.Goals as goal

pub loop-plate-preserved : goal.loop-plate-preserved
loop-plate-preserved c = grind (arith, common_steps)
