-- trap_while: goals that the search finds slowly.
use Rattle.std.proofs.lemmas.Grind.{common_steps}
use Rattle.std.proofs.Common.{arith}
use Rattle.sheet_stream.proofs.ahead.trap_while.Goals as goal

pub returns-clause-trapped : goal.returns-clause-trapped
returns-clause-trapped c = grind (arith, common_steps)
