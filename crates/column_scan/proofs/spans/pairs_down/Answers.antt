-- pairs_down: goals that the search finds slowly.
use Rattle.std.proofs.lemmas.Grind.{common_steps}
use Rattle.std.proofs.Common.{arith}
use Rattle.column_scan.proofs.spans.pairs_down.Goals as goal

pub bounds-codes-odd-in-loop-k : goal.bounds-codes-odd-in-loop-k
bounds-codes-odd-in-loop-k c = grind (arith, common_steps)
