-- trap_beside: traps a strip beside the writing and the reading.
use Rattle.std.proofs.Common.{arith}
use Rattle.std.proofs.lemmas.Grind.{common_steps}
use Rattle.sheet_stream.proofs.pipeline.trap_beside.Goals as goal

pub returns-clause-strip : goal.returns-clause-strip
returns-clause-strip g c = grind (arith, common_steps)

pub returns-clause-trapped : goal.returns-clause-trapped
returns-clause-trapped g c = grind (arith, common_steps)

pub returns-clause-windows : goal.returns-clause-windows
returns-clause-windows g c = grind (arith, common_steps)

pub returns-clause-line : goal.returns-clause-line
returns-clause-line g c = grind (arith, common_steps)

pub returns-clause-bytes : goal.returns-clause-bytes
returns-clause-bytes g c = grind (arith, common_steps)

pub returns-clause-pieces : goal.returns-clause-pieces
returns-clause-pieces g c = grind (arith, common_steps)

pub trap_while-requires-clause-work : goal.trap_while-requires-clause-work
trap_while-requires-clause-work g c = grind (arith, common_steps)

pub shape_of-workspace : goal.shape_of-workspace
shape_of-workspace g c = grind (arith, common_steps)

pub progress_after-requires : goal.progress_after-requires
progress_after-requires g c = grind (arith, common_steps)
