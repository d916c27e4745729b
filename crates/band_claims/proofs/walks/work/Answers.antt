-- work: goals that the search finds slowly.
use Rattle.std.proofs.Common.{arith}
use Rattle.std.proofs.lemmas.Grind.{common_steps}
use Rattle.band_claims.proofs.walks.work.Goals as goal

pub loop-won-preserved : goal.loop-won-preserved
loop-won-preserved g c = grind (arith, common_steps)

pub loop-won-init : goal.loop-won-init
loop-won-init g c = grind (arith, common_steps)
