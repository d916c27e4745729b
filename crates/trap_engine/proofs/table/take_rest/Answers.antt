-- take_rest: goals that the search finds slowly.
use Rattle.std.proofs.Common.{arith}
use Rattle.std.proofs.lemmas.Grind.{common_steps}
use Rattle.trap_engine.proofs.table.take_rest.Goals as goal

pub put_works-requires-clause-works : goal.put_works-requires-clause-works
put_works-requires-clause-works c = grind (arith, common_steps)

pub add_parts-requires-clause-plates : goal.add_parts-requires-clause-plates
add_parts-requires-clause-plates c = grind (arith, common_steps)

pub add_parts-requires-clause-parts : goal.add_parts-requires-clause-parts
add_parts-requires-clause-parts c = grind (arith, common_steps)

pub returns-clause-parts_workspace : goal.returns-clause-parts_workspace
returns-clause-parts_workspace c = grind (arith, common_steps)

pub returns-clause-rows : goal.returns-clause-rows
returns-clause-rows c = grind (arith, common_steps)

pub count_those_left-requires-clause-parts : goal.count_those_left-requires-clause-parts
count_those_left-requires-clause-parts c = grind (arith, common_steps)
