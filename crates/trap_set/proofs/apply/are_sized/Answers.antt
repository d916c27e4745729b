-- are_sized: goals that the search finds slowly.
use Rattle.std.proofs.Common.{arith}
use Rattle.std.proofs.lemmas.Grind.{common_steps}
use Rattle.trap_set.proofs.apply.are_sized.Goals as goal

pub returns : goal.returns
returns c = grind (arith, common_steps)
