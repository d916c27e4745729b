-- take_side_by_side: goals that the search finds slowly.
use Rattle.std.proofs.Common.{arith}
use Rattle.std.proofs.lemmas.Grind.{common_steps}
use Rattle.trap_engine.proofs.table.take_side_by_side.Goals as goal

pub returns-then-not-are_taken-clause-left_workspace : goal.returns-then-not-are_taken-clause-left_workspace
returns-then-not-are_taken-clause-left_workspace g c = grind (arith, common_steps)

pub returns-then-not-are_taken-clause-left : goal.returns-then-not-are_taken-clause-left
returns-then-not-are_taken-clause-left g c = grind (arith, common_steps)

pub put_works-requires-clause-works : goal.put_works-requires-clause-works
put_works-requires-clause-works g c = grind (arith, common_steps)

pub put_works-requires-clause-counted : goal.put_works-requires-clause-counted
put_works-requires-clause-counted g c = grind (arith, common_steps)

pub returns-clause-parts_workspace : goal.returns-clause-parts_workspace
returns-clause-parts_workspace g c = grind (arith, common_steps)

pub returns-clause-parts : goal.returns-clause-parts
returns-clause-parts g c = grind (arith, common_steps)

pub returns-then-not-are_taken-clause-parts : goal.returns-then-not-are_taken-clause-parts
returns-then-not-are_taken-clause-parts g c = grind (arith, common_steps)

pub returns-clause-none : goal.returns-clause-none
returns-clause-none g c = grind (arith, common_steps)

pub count_by_readers-requires-clause-parts : goal.count_by_readers-requires-clause-parts
count_by_readers-requires-clause-parts g c = grind (arith, common_steps)

pub count_by_readers-requires-clause-planes : goal.count_by_readers-requires-clause-planes
count_by_readers-requires-clause-planes g c = grind (arith, common_steps)
