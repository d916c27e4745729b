-- job_line: goals that the search finds slowly.
use Rattle.std.proofs.lemmas.Grind.{common_steps}
use Rattle.std.proofs.Common.{arith}
use Rattle.common_errors.proofs.fault_line.job_line.Goals as goal

pub push-requires-5 : goal.push-requires-5
push-requires-5 c = grind (arith, common_steps)

pub push-requires-4 : goal.push-requires-4
push-requires-4 c = grind (arith, common_steps)

pub push_number-requires : goal.push_number-requires
push_number-requires c = grind (arith, common_steps)

pub returns-clause-short : goal.returns-clause-short
returns-clause-short c = grind (arith, common_steps)
