-- copy_to_start: goals that the search finds slowly.
use Rattle.std.proofs.lemmas.Grind.{common_steps}
use Rattle.std.proofs.Common.{arith}
use Rattle.sheet_stream.proofs.common.copy_to_start.Goals as goal

pub returns-clause-first : goal.returns-clause-first
returns-clause-first c = grind (arith, common_steps)
