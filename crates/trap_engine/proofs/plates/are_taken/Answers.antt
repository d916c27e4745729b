-- are_taken: goals that the search finds slowly.
use Rattle.std.proofs.lemmas.Grind.{common_steps}
use Rattle.std.proofs.Common.{arith}
use Rattle.trap_engine.proofs.plates.are_taken.Goals as goal

pub returns-clause-left : goal.returns-clause-left
returns-clause-left c = grind (arith, common_steps)
