-- trap_new_uncounted: goals that the search finds slowly.
use Rattle.std.proofs.lemmas.Grind.{common_steps}
use Rattle.std.proofs.Common.{arith}
use Rattle.strip_engine.proofs.workspace.PageWorkspace.trap_new_uncounted.Goals as goal

pub trap_rows-requires-clause-outcome : goal.trap_rows-requires-clause-outcome
trap_rows-requires-clause-outcome c = grind (arith, common_steps)
