-- cut_outcome: goals that the search finds slowly.
use Rattle.std.proofs.lemmas.Grind.{common_steps}
use Rattle.std.proofs.Common.{arith}
use Rattle.sheet_files.proofs.outcome.cut_outcome.Goals as goal

pub sheet_outcome-requires-clause-can : goal.sheet_outcome-requires-clause-can
sheet_outcome-requires-clause-can c = grind (arith, common_steps)

pub returns-clause-planes : goal.returns-clause-planes
returns-clause-planes c = grind (arith, common_steps)

pub returns-clause-report : goal.returns-clause-report
returns-clause-report c = grind (arith, common_steps)
