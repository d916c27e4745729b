-- trap_strip: goals that the search finds slowly.
use Rattle.std.proofs.lemmas.Grind.{common_steps}
use Rattle.std.proofs.Common.{arith}
use Rattle.strip_engine.proofs.strips.trap_strip.Goals as goal

pub returns-clause-outcome : goal.returns-clause-outcome
returns-clause-outcome c = grind (arith, common_steps)

pub trap_rows-requires-clause-outcome : goal.trap_rows-requires-clause-outcome
trap_rows-requires-clause-outcome c = grind (arith, common_steps)

pub trap_rows-requires-clause-codes : goal.trap_rows-requires-clause-codes
trap_rows-requires-clause-codes c = grind (arith, common_steps)

pub make_answers-requires-clause-marks : goal.make_answers-requires-clause-marks
make_answers-requires-clause-marks c = grind (arith, common_steps)
