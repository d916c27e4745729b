-- +writes_none: goals that the search finds slowly.
use Rattle.std.proofs.lemmas.Grind.{common_steps}
use Rattle.std.proofs.Common.{arith}
use Rattle.job_list.proofs.outputs.+writes_none.Goals as goal

pub returns-then-not-writes : goal.returns-then-not-writes
returns-then-not-writes c = grind (arith, common_steps)
