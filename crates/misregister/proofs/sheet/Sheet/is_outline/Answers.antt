-- is_bare: goals that the search finds slowly.
use Rattle.std.proofs.lemmas.Grind.{common_steps}
use Rattle.std.proofs.Common.{arith}
use Rattle.misregister.proofs.sheet.Sheet.is_outline.Goals as goal

pub returns-clause-outline : goal.returns-clause-outline
returns-clause-outline c = grind (arith, common_steps)
