-- new: goals that the search finds slowly.
use Rattle.std.proofs.Common.{arith}
use Rattle.std.proofs.lemmas.Grind.{common_steps}
use Rattle.row_values.proofs.row_buffers.RowBuffers.new.Goals as goal

pub invariant_of-result : goal.invariant_of-result
invariant_of-result c = grind (arith, common_steps)

pub new-requires-3-clause-some : goal.new-requires-3-clause-some
new-requires-3-clause-some c = grind (arith, common_steps)

pub new-requires-3-clause-narrow : goal.new-requires-3-clause-narrow
new-requires-3-clause-narrow c = grind (arith, common_steps)

pub same-result : goal.same-result
same-result c = grind (arith, common_steps)
