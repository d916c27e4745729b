-- judge_plate: goals that the search finds slowly.
use Rattle.std.proofs.lemmas.Grind.{common_steps}
use Rattle.std.proofs.Common.{arith}
use Rattle.plate_rows.proofs.judging.judge_plate.Goals as goal

pub returns-clause-answer : goal.returns-clause-answer
returns-clause-answer c = grind (arith, common_steps)

pub returns-in_err-judge_rest-clause-memory : goal.returns-in_err-judge_rest-clause-memory
returns-in_err-judge_rest-clause-memory c = grind (arith, common_steps)
