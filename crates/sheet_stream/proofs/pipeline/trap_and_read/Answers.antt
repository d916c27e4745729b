-- trap_and_read: goals that the search finds slowly.
use Rattle.std.proofs.Common.{arith}
use Rattle.std.proofs.lemmas.Grind.{common_steps}
use Rattle.sheet_stream.proofs.pipeline.trap_and_read.Goals as goal

pub returns-clause-pieces : goal.returns-clause-pieces
returns-clause-pieces g c = grind (arith, common_steps)

pub returns-clause-trapped : goal.returns-clause-trapped
returns-clause-trapped g c = grind (arith, common_steps)

pub progress_after-requires : goal.progress_after-requires
progress_after-requires g c = grind (arith, common_steps)

pub trap_while-requires-clause-work : goal.trap_while-requires-clause-work
trap_while-requires-clause-work g c = grind (arith, common_steps)

pub returns-clause-strip : goal.returns-clause-strip
returns-clause-strip g c = grind (arith, common_steps)

pub returns-clause-core : goal.returns-clause-core
returns-clause-core g c = grind (arith, common_steps)
