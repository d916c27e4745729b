-- finish: goals that the search finds slowly.
use Rattle.std.proofs.Common.{arith}
use Rattle.std.proofs.lemmas.Grind.{common_steps}
use Rattle.outside.proofs.mem_rack.MemRackRack.finish.Goals as goal

pub returns-then-is_failing-clause-rack : goal.returns-then-is_failing-clause-rack
returns-then-is_failing-clause-rack c = grind (arith, common_steps)

pub returns-in-Some-clause-rack : goal.returns-in-Some-clause-rack
returns-in-Some-clause-rack c = grind (arith, common_steps)

pub returns-in_default-clause-rack : goal.returns-in_default-clause-rack
returns-in_default-clause-rack c = grind (arith, common_steps)
