-- push: goals that the search finds slowly.
use Rattle.std.proofs.lemmas.Grind.{common_steps}
use Rattle.std.proofs.Common.{arith}
use Rattle.common_errors.proofs.line.Line.push.Goals as goal

pub returns : goal.returns
returns c = grind (arith, common_steps)
