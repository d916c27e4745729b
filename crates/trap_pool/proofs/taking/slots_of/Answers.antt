-- slots_of: goals that the search finds slowly.
use Rattle.std.proofs.Common.{arith}
use Rattle.std.proofs.lemmas.Grind.{common_steps}
use Rattle.trap_pool.proofs.taking.slots_of.Goals as goal

pub loop-page-preserved : goal.loop-page-preserved
loop-page-preserved g c = grind (arith, common_steps)

pub new-requires-clause-line : goal.new-requires-clause-line
new-requires-clause-line g c = grind (arith, common_steps)

pub returns : goal.returns
returns c = grind (arith, common_steps)

pub overflow_cast-line : goal.overflow_cast-line
overflow_cast-line g c = grind (arith, common_steps)

pub unreachable-requires : goal.unreachable-requires
unreachable-requires g c = grind (arith, common_steps)
