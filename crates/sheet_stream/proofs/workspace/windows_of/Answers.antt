-- windows_of: goals that the search finds slowly.
use Rattle.std.proofs.Common.{arith}
use Rattle.std.proofs.lemmas.Grind.{common_steps}
use Rattle.sheet_stream.proofs.workspace.windows_of.Goals as goal

pub returns : goal.returns
returns c = grind (arith, common_steps)

pub new-requires-clause-columns : goal.new-requires-clause-columns
new-requires-clause-columns c = grind (arith, common_steps)
