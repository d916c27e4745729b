-- trap_row: traps a row, by its column answers.
use Rattle.std.proofs.Common.{arith}
use Rattle.std.proofs.lemmas.Grind.{common_steps}
use Rattle.strip_engine.proofs.strips.trap_row.Goals as goal

pub returns-clause-buffers : goal.returns-clause-buffers
returns-clause-buffers c = record { zones = c.requires.buffers.zones; marks = c.requires.buffers.marks; row = grind (arith, common_steps) }

pub take_row-requires-clause-tints : goal.take_row-requires-clause-tints
take_row-requires-clause-tints c = grind (arith, common_steps)

pub take_row-requires-2-clause-tints : goal.take_row-requires-2-clause-tints
take_row-requires-2-clause-tints c = grind (arith, common_steps)

pub take_row-requires-2-clause-outcome : goal.take_row-requires-2-clause-outcome
take_row-requires-2-clause-outcome c = grind (arith, common_steps)

pub make_row-requires-clause-out : goal.make_row-requires-clause-out
make_row-requires-clause-out c = grind (arith, common_steps)

pub returns-clause-outcome : goal.returns-clause-outcome
returns-clause-outcome c = grind (arith, common_steps)

pub take_row-requires-2-clause-marks : goal.take_row-requires-2-clause-marks
take_row-requires-2-clause-marks c = grind (arith, common_steps)

pub take_row-requires-2-clause-zones : goal.take_row-requires-2-clause-zones
take_row-requires-2-clause-zones c = grind (arith, common_steps)

pub take_row-requires-clause-outcome : goal.take_row-requires-clause-outcome
take_row-requires-clause-outcome c = grind (arith, common_steps)
