-- mark_plain: goals that the search finds slowly.
use Rattle.std.proofs.Common.{arith}
use Rattle.std.proofs.lemmas.Grind.{common_steps}
use Rattle.edge_rule.proofs.plain.mark_plain.Goals as goal

pub write_marks-requires-clause-right : goal.write_marks-requires-clause-right
write_marks-requires-clause-right c = grind (arith, common_steps)

pub write_marks-requires-clause-lower : goal.write_marks-requires-clause-lower
write_marks-requires-clause-lower c = grind (arith, common_steps)

pub returns-clause-each : goal.returns-clause-each
returns-clause-each c = grind (arith, common_steps)

pub find_lower-requires-clause-lie : goal.find_lower-requires-clause-lie
find_lower-requires-clause-lie c = grind (arith, common_steps)
