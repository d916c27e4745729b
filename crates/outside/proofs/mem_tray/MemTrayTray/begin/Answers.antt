-- begin: goals that the search finds slowly.
use Rattle.std.proofs.Common.{arith}
use Rattle.std.proofs.lemmas.Grind.{common_steps}
use Rattle.outside.proofs.mem_tray.MemTrayTray.begin.Goals as goal

pub returns-in-Some-clause-tray : goal.returns-in-Some-clause-tray
returns-in-Some-clause-tray c = grind (arith, common_steps)

pub returns-in-None-clause-tray : goal.returns-in-None-clause-tray
returns-in-None-clause-tray c = grind (arith, common_steps)

pub returns-then-is_failing-clause-tray : goal.returns-then-is_failing-clause-tray
returns-then-is_failing-clause-tray c = grind (arith, common_steps)

pub invariant_of-self-in-None : goal.invariant_of-self-in-None
invariant_of-self-in-None c = grind (arith, common_steps)
