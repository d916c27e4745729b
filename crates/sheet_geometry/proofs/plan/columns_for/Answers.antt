-- columns_for: goals that the search finds slowly.
use Rattle.std.proofs.lemmas.Grind.{common_steps}
use Rattle.std.proofs.Common.{arith}
use Rattle.sheet_geometry.proofs.plan.columns_for.Goals as goal

pub returns-clause-few_samples : goal.returns-clause-few_samples
returns-clause-few_samples c = grind (arith, common_steps)

pub returns-clause-budget : goal.returns-clause-budget
returns-clause-budget c = grind (arith, common_steps)
