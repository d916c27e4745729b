-- plane_tints: goals that the search finds slowly.
use Rattle.std.proofs.lemmas.Grind.{common_steps}
use Rattle.std.proofs.Common.{arith}
use Rattle.page_source.proofs.sample.plane_tints.Goals as goal

pub colour-requires-clause-low : goal.colour-requires-clause-low
colour-requires-clause-low c = grind (arith, common_steps)

pub loop-place-preserved : goal.loop-place-preserved
loop-place-preserved c = grind (arith, common_steps)
