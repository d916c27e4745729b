-- tints_of_row: goals that the search finds slowly.
use Rattle.std.proofs.lemmas.Grind.{common_steps}
use Rattle.std.proofs.Common.{arith}
use Rattle.row_values.proofs.tint_rows.tints_of_row.Goals as goal

pub returns-clause-each : goal.returns-clause-each
returns-clause-each c = grind (arith, common_steps)
