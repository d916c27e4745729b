-- take_by_reader: goals that the search finds slowly.
use Rattle.std.proofs.Common.{arith}
use Rattle.std.proofs.lemmas.Grind.{common_steps}
use Rattle.trap_engine.proofs.plates.take_by_reader.Goals as goal

pub returns-clause-work : goal.returns-clause-work
returns-clause-work c = grind (arith, common_steps)

pub take_plate-work-requires-clause-known : goal.take_plate-work-requires-clause-known
take_plate-work-requires-clause-known c = grind (arith, common_steps)

pub take_plate-work-requires-clause-workspace : goal.take_plate-work-requires-clause-workspace
take_plate-work-requires-clause-workspace c = grind (arith, common_steps)
