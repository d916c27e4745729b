-- lift_span: goals that the search finds slowly.
use Rattle.std.proofs.Common.{arith}
use Rattle.std.proofs.lemmas.Grind.{common_steps}
use Rattle.column_scan.proofs.lifts.lift_span.Goals as goal

pub get-requires-in-loop-j-clause-place : goal.get-requires-in-loop-j-clause-place
get-requires-in-loop-j-clause-place c = grind (arith, common_steps)

pub put-requires-clause-place : goal.put-requires-clause-place
put-requires-clause-place c = grind (arith, common_steps)
