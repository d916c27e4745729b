-- set_from: goals that the search finds slowly.
use Rattle.std.proofs.Common.{arith}
use Rattle.std.proofs.lemmas.Grind.{common_steps}
use Rattle.job_reader.proofs.device.set_from.Goals as goal

pub returns-in-Some : goal.returns-in-Some
returns-in-Some c = grind (arith, common_steps)

pub returns-in_default-details : goal.returns-in_default-details
returns-in_default-details c = grind (arith, common_steps)

pub returns-in-Some-details : goal.returns-in-Some-details
returns-in-Some-details c = grind (arith, common_steps)
