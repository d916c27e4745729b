-- is_run: goals that the search finds slowly.
use Rattle.std.proofs.Common.{arith}
use Rattle.std.proofs.lemmas.Grind.{common_steps}
use Rattle.trap_set.proofs.lines.is_run.Goals as goal

pub returns-then-numbers-head-2 : goal.returns-then-numbers-head-2
returns-then-numbers-head-2 c = grind (arith, common_steps)
