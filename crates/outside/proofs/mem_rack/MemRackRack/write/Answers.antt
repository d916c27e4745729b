-- write: goals that the search finds slowly.
use Rattle.std.proofs.Common.{arith}
use Rattle.std.proofs.lemmas.Grind.{common_steps}
use Rattle.outside.proofs.mem_rack.MemRackRack.write.Goals as goal

pub returns-then-not-grow-clause-rack : goal.returns-then-not-grow-clause-rack
returns-then-not-grow-clause-rack c = grind (arith, common_steps)

pub returns-then-is_failing-clause-rack : goal.returns-then-is_failing-clause-rack
returns-then-is_failing-clause-rack c = grind (arith, common_steps)

pub slice_bounds-grow-end : goal.slice_bounds-grow-end
slice_bounds-grow-end c = grind (arith, common_steps)
