-- into_traps: goals that the search finds slowly.
use Rattle.std.proofs.lemmas.Grind.{common_steps}
use Rattle.std.proofs.Common.{arith}
use Rattle.trap_pool.proofs.slot.Slot.into_traps.Goals as goal

pub returns-in-Made-clause-line : goal.returns-in-Made-clause-line
returns-in-Made-clause-line c = grind (arith, common_steps)
