-- set_trap_params: goals that the search finds slowly.
use Rattle.std.proofs.lemmas.Grind.{common_steps}
use Rattle.std.proofs.Common.{arith}
use Rattle.job_reader.proofs.parameters.set_trap_params.Goals as goal

pub returns-else-second-first : goal.returns-else-second-first
returns-else-second-first c = grind (arith, common_steps)

pub returns-then-second-first : goal.returns-then-second-first
returns-then-second-first c = grind (arith, common_steps)

pub returns-in-Ok-params : goal.returns-in-Ok-params
returns-in-Ok-params c = grind (arith, common_steps)
