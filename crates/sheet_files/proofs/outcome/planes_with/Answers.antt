-- planes_with: goals that the search finds slowly.
use Rattle.std.proofs.Common.{arith}
use Rattle.std.proofs.lemmas.Grind.{common_steps}
use Rattle.sheet_files.proofs.outcome.planes_with.Goals as goal

pub loop-plate-preserved : goal.loop-plate-preserved
loop-plate-preserved c = grind (arith, common_steps)
