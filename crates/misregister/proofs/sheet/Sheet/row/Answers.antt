-- row: goals that the search finds slowly.
use Rattle.std.proofs.lemmas.Grind.{common_steps}
use Rattle.std.proofs.Common.{arith}
use Rattle.misregister.proofs.sheet.Sheet.row.Goals as goal

pub returns-clause-wide : goal.returns-clause-wide
returns-clause-wide c = grind (arith, common_steps)
