-- clear: sets all counts to 0.
use Rattle.std.proofs.Common.{arith}
use Rattle.std.proofs.lemmas.Grind.{common_steps}
use Rattle.sheet_engine.proofs.workspace.clear.Goals as goal

pub returns : goal.returns
returns c = grind (arith, common_steps)
