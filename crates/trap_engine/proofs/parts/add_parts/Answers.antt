-- add_parts: goals that the search finds slowly.
use Rattle.std.proofs.Common.{arith}
use Rattle.std.proofs.lemmas.Grind.{common_steps}
use Rattle.trap_engine.proofs.parts.add_parts.Goals as goal

pub loop-i-preserved : goal.loop-i-preserved
loop-i-preserved c = grind (arith, common_steps)

pub loop-i-init : goal.loop-i-init
loop-i-init c = grind (arith, common_steps)
