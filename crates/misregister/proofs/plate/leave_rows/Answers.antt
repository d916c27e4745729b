-- leave_rows: goals that the search finds slowly.
use Rattle.std.proofs.lemmas.Grind.{common_steps}
use Rattle.std.proofs.Common.{arith}
use Rattle.misregister.proofs.plate.leave_rows.Goals as goal

pub returns-clause-left : goal.returns-clause-left
returns-clause-left c = grind (arith, common_steps)
