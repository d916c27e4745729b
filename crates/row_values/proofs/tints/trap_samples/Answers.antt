-- trap_samples: goals that the search finds slowly.
use Rattle.std.proofs.lemmas.Grind.{common_steps}
use Rattle.std.proofs.Common.{arith}
use Rattle.row_values.proofs.tints.trap_samples.Goals as goal

pub loop-x-preserved : goal.loop-x-preserved
loop-x-preserved c = grind (arith, common_steps)

pub trap_some-requires-clause-out : goal.trap_some-requires-clause-out
trap_some-requires-clause-out c = grind (arith, common_steps)
