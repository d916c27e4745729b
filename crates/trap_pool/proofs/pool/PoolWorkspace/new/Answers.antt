-- new: goals that the search finds slowly.
use Rattle.std.proofs.Common.{arith}
use Rattle.std.proofs.lemmas.Grind.{common_steps}
use Rattle.trap_pool.proofs.pool.PoolWorkspace.new.Goals as goal

pub returns : goal.returns
returns c = grind (arith, common_steps)
