-- count_by_reader: goals that the search finds slowly.
use Rattle.std.proofs.lemmas.Grind.{common_steps}
use Rattle.std.proofs.Common.{arith}
use Rattle.trap_engine.proofs.parts.count_by_reader.Goals as goal

pub take_rows-requires-clause-planes : goal.take_rows-requires-clause-planes
take_rows-requires-clause-planes c = grind (arith, common_steps)

pub returns-clause-part : goal.returns-clause-part
returns-clause-part c = grind (arith, common_steps)

pub take_rows-requires-clause-tally : goal.take_rows-requires-clause-tally
take_rows-requires-clause-tally c = grind (arith, common_steps)

pub take_rows-requires-clause-known : goal.take_rows-requires-clause-known
take_rows-requires-clause-known c = grind (arith, common_steps)
