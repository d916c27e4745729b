-- numbered_line: goals that the search finds slowly.
use Rattle.std.proofs.lemmas.Grind.{common_steps}
use Rattle.std.proofs.Common.{arith}
use Rattle.common_errors.proofs.common.CommonError.numbered_line.Goals as goal

pub push-requires-3 : goal.push-requires-3
push-requires-3 c = grind (arith, common_steps)
