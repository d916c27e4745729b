-- trap: goals that the search finds slowly.
use Rattle.std.proofs.lemmas.Grind.{common_steps}
use Rattle.std.proofs.Common.{arith, rules}
use Rattle.strip_engine.proofs.workspace.PageWorkspace.trap.Goals as goal

pub returns-clause-rows : goal.returns-clause-rows
returns-clause-rows c = search rules

pub returns-clause-workspace : goal.returns-clause-workspace
returns-clause-workspace c = grind (arith, common_steps)
