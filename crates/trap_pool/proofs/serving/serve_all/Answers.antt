-- serve_all: goals that the search finds slowly.
use Rattle.std.proofs.lemmas.Grind.{common_steps}
use Rattle.std.proofs.Common.{arith}
use Rattle.trap_pool.proofs.serving.serve_all.Goals as goal

pub returns-clause-served : goal.returns-clause-served
returns-clause-served c = grind (arith, common_steps)

pub returns-clause-taken : goal.returns-clause-taken
returns-clause-taken c = grind (arith, common_steps)
