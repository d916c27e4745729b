-- apply: goals that the search finds slowly.
use Rattle.std.proofs.lemmas.Grind.{common_steps}
use Rattle.std.proofs.Common.{arith}
use Rattle.job_parts.proofs.applying.apply.Goals as goal

pub set_boolean-requires : goal.set_boolean-requires
set_boolean-requires c = grind (arith, common_steps)

pub set_number-requires-6 : goal.set_number-requires-6
set_number-requires-6 c = grind (arith, common_steps)

pub set_number-requires-7 : goal.set_number-requires-7
set_number-requires-7 c = grind (arith, common_steps)
