-- rows_between: some rows of a list of rows.
use Rattle.std.proofs.Common.{arith}
use Rattle.std.proofs.lemmas.Grind.{common_steps}
use Rattle.strip_engine.proofs.marks.rows_between.Goals as goal

pub returns : goal.returns
returns c = grind (arith, common_steps)
