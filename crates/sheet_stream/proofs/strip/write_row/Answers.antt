-- write_row: writes the rows of a strip's core.
use Rattle.std.proofs.Common.{arith}
use Rattle.std.proofs.lemmas.Grind.{common_steps}
use Rattle.sheet_stream.proofs.strip.write_row.Goals as goal

pub write_core-requires-clause-cut : goal.write_core-requires-clause-cut
write_core-requires-clause-cut g c = rw c.cut_of-cut.ensures c.requires.cut

pub returns-clause-written : goal.returns-clause-written
returns-clause-written g c = rw c.cut_of-cut.ensures at c.write_core.ensures

pub returns-clause-windows : goal.returns-clause-windows
returns-clause-windows g c = grind (arith, common_steps)

pub returns-clause-bytes : goal.returns-clause-bytes
returns-clause-bytes g c = grind (arith, common_steps)

pub returns-clause-line : goal.returns-clause-line
returns-clause-line g c = grind (arith, common_steps)
