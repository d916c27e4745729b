-- fill_row: goals that the search finds slowly.
use Rattle.std.proofs.lemmas.Grind.{common_steps}
use Rattle.std.proofs.Common.{arith}
use Rattle.row_values.proofs.tints.fill_row.Goals as goal

pub returns-else-not-is_quiet-clause-out : goal.returns-else-not-is_quiet-clause-out
returns-else-not-is_quiet-clause-out c = grind (arith, common_steps)
