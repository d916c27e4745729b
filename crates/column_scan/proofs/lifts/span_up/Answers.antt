-- span_up: goals that the search finds slowly.
use Rattle.std.proofs.lemmas.Grind.{common_steps}
use Rattle.std.proofs.Common.{arith}
use Rattle.column_scan.proofs.lifts.span_up.Goals as goal

pub are_zero-requires-clause-inside : goal.are_zero-requires-clause-inside
are_zero-requires-clause-inside c = grind (arith, common_steps)

pub returns-else-not-are_zero-clause-each : goal.returns-else-not-are_zero-clause-each
returns-else-not-are_zero-clause-each c = grind (arith, common_steps)
