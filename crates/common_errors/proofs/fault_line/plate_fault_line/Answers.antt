-- plate_fault_line: goals that the search finds slowly.
use Rattle.std.proofs.lemmas.Grind.{common_steps}
use Rattle.std.proofs.Common.{arith}
use Rattle.common_errors.proofs.fault_line.plate_fault_line.Goals as goal

pub push-requires-5 : goal.push-requires-5
push-requires-5 c = grind (arith, common_steps)

pub returns-clause-short : goal.returns-clause-short
returns-clause-short c = grind (arith, common_steps)
