-- give: goals that the search finds slowly.
use Rattle.std.proofs.lemmas.Grind.{common_steps}
use Rattle.std.proofs.Common.{arith}
use Rattle.outside.proofs.mem_tray.give.Goals as goal

pub returns-then-count-gt0-clause-given : goal.returns-then-count-gt0-clause-given
returns-then-count-gt0-clause-given c = grind (arith, common_steps)
