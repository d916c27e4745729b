-- call_fault: goals that the search finds slowly.
use Rattle.std.proofs.lemmas.Grind.{common_steps}
use Rattle.std.proofs.Common.{arith}
use Rattle.trap_c.proofs.fit.call_fault.Goals as goal

pub overflow_mul-names-2 : goal.overflow_mul-names-2
overflow_mul-names-2 c = grind (arith, common_steps)

pub overflow_mul-names : goal.overflow_mul-names
overflow_mul-names c = grind (arith, common_steps)

pub returns-then-count-names-clause-call : goal.returns-then-count-names-clause-call
returns-then-count-names-clause-call c = grind (arith, common_steps)
