-- put_last: goals that the search finds slowly.
use Rattle.std.proofs.Common.{arith}
use Rattle.std.proofs.lemmas.Grind.{common_steps}
use Rattle.sheet_stream.proofs.step.put_last.Goals as goal

pub returns-clause-trapped : goal.returns-clause-trapped
returns-clause-trapped g c = grind (arith, common_steps)
