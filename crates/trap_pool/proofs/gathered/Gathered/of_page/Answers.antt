-- of_page: goals that the search finds slowly.
use Rattle.std.proofs.lemmas.Grind.{common_steps}
use Rattle.std.proofs.Common.{arith}
use Rattle.trap_pool.proofs.gathered.Gathered.of_page.Goals as goal

pub returns-clause-waits : goal.returns-clause-waits
returns-clause-waits c = cc

pub returns-clause-limit : goal.returns-clause-limit
returns-clause-limit c = grind (arith, common_steps)

pub invariant_of-gathered-2 : goal.invariant_of-gathered-2
invariant_of-gathered-2 c = grind (arith, common_steps)

pub returns-then-used-samples-gt-MOST_IN_ALL-clause-limit : goal.returns-then-used-samples-gt-MOST_IN_ALL-clause-limit
returns-then-used-samples-gt-MOST_IN_ALL-clause-limit c = grind (arith, common_steps)

pub returns-clause-page : goal.returns-clause-page
returns-clause-page c = grind (arith, common_steps)

pub overflow_mul-samples-2 : goal.overflow_mul-samples-2
overflow_mul-samples-2 c = grind (arith, common_steps)

pub overflow_add-used : goal.overflow_add-used
overflow_add-used c = grind (arith, common_steps)

pub returns-then-used-samples-gt-MOST_IN_ALL-clause-page : goal.returns-then-used-samples-gt-MOST_IN_ALL-clause-page
returns-then-used-samples-gt-MOST_IN_ALL-clause-page c = grind (arith, common_steps)
