-- new_buffers: goals that the search finds slowly.
use Rattle.std.proofs.Common.{arith}
use Rattle.std.proofs.lemmas.Grind.{common_steps}
use Rattle.strip_engine.proofs.strips.new_buffers.Goals as goal

pub returns : goal.returns
returns c = grind (arith, common_steps)

pub overflow_mul-plates : goal.overflow_mul-plates
overflow_mul-plates c = grind (arith, common_steps)
