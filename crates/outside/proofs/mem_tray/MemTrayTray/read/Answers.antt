-- read: goals that the search finds slowly.
use Rattle.std.proofs.lemmas.Grind.{common_steps}
use Rattle.std.proofs.Common.{arith}
use Rattle.outside.proofs.mem_tray.MemTrayTray.read.Goals as goal

pub invariant_of-self-2 : goal.invariant_of-self-2
invariant_of-self-2 c = grind (arith, common_steps)

pub returns-then-is_failing-clause-tray : goal.returns-then-is_failing-clause-tray
returns-then-is_failing-clause-tray c = grind (arith, common_steps)

pub returns-clause-tray : goal.returns-clause-tray
returns-clause-tray c = grind (arith, common_steps)
