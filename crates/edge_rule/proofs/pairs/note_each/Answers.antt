-- note_each: goals that the search finds slowly.
use Rattle.std.proofs.lemmas.Grind.{common_steps}
use Rattle.std.proofs.Common.{arith}
use Rattle.edge_rule.proofs.pairs.note_each.Goals as goal

pub bounds-fallen-k-in-loop-k : goal.bounds-fallen-k-in-loop-k
bounds-fallen-k-in-loop-k c = grind (arith, common_steps)

pub bounds-risen-k-in-loop-k : goal.bounds-risen-k-in-loop-k
bounds-risen-k-in-loop-k c = grind (arith, common_steps)
