-- earlier: goals that the search finds slowly.
use Rattle.std.proofs.lemmas.Grind.{common_steps}
use Rattle.std.proofs.Common.{arith}
use Rattle.ps_tokens.proofs.entry_errors.earlier.Goals as goal

pub returns-else-two-one : goal.returns-else-two-one
returns-else-two-one c = grind (arith, common_steps)
