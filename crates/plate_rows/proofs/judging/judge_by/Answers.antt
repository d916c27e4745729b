-- judge_by: goals that the search finds slowly.
use Rattle.std.proofs.lemmas.Grind.{common_steps}
use Rattle.std.proofs.Common.{arith}
use Rattle.plate_rows.proofs.judging.judge_by.Goals as goal

pub judge_each-requires-clause-workspace : goal.judge_each-requires-clause-workspace
judge_each-requires-clause-workspace c = grind (arith, common_steps)
