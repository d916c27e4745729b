-- trap_lines: goals that the search finds slowly.
use Rattle.std.proofs.Common.{arith}
use Rattle.std.proofs.lemmas.Grind.{common_steps}
use Rattle.trap_pool.proofs.trapping.trap_lines.Goals as goal

pub take_in-requires-clause-slots : goal.take_in-requires-clause-slots
take_in-requires-clause-slots g c = grind (arith, common_steps)

pub serve_waiting-requires-clause-ascends : goal.serve_waiting-requires-clause-ascends
serve_waiting-requires-clause-ascends g c = grind (arith, common_steps)

pub returns-in_default : goal.returns-in_default
returns-in_default g c = grind (arith, common_steps)

pub slots_of-slots-requires-clause-numbered : goal.slots_of-slots-requires-clause-numbered
slots_of-slots-requires-clause-numbered g c = grind (arith, common_steps)
