-- strip_tints: the new tints of a plate of the strip, row by row.
use Rattle.std.proofs.Common.{arith}
use Rattle.std.proofs.lemmas.Grind.{common_steps}
use Rattle.sheet_engine.proofs.rows.strip_tints.Goals as goal

pub loop-k-preserved : goal.loop-k-preserved
loop-k-preserved c = grind (arith, common_steps)

pub returns-then-is_err-clause-line : goal.returns-then-is_err-clause-line
returns-then-is_err-clause-line c = grind (arith, common_steps)

pub put_strip_row-requires-clause-row : goal.put_strip_row-requires-clause-row
put_strip_row-requires-clause-row c = grind (arith, common_steps)
