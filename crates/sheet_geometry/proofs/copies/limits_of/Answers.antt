-- limits_of: goals that the search finds slowly.
use Rattle.std.proofs.lemmas.Grind.{common_steps}
use Rattle.std.proofs.Common.{arith}
use Rattle.sheet_geometry.proofs.copies.limits_of.Goals as goal

pub loop-limit-preserved : goal.loop-limit-preserved
loop-limit-preserved c = grind (arith, common_steps)
