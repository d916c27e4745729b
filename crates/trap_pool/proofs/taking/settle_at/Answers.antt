-- settle_at: goals that the search finds slowly.
use Rattle.std.proofs.lemmas.Grind.{common_steps}
use Rattle.std.proofs.Common.{arith}
use Rattle.trap_pool.proofs.taking.settle_at.Goals as goal

pub settle-requires : goal.settle-requires
settle-requires c = grind (arith, common_steps)

pub returns : goal.returns
returns c = grind (arith, common_steps)
