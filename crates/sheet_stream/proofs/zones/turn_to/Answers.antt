-- turn_to: goals that the search finds slowly.
use Rattle.std.proofs.lemmas.Grind.{common_steps}
use Rattle.std.proofs.Common.{arith}
use Rattle.sheet_stream.proofs.zones.turn_to.Goals as goal

pub overflow_sub-below : goal.overflow_sub-below
overflow_sub-below c = grind (arith, common_steps)
