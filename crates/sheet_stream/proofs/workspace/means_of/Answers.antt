-- means_of: goals that the search finds slowly.
use Rattle.std.proofs.lemmas.Grind.{common_steps}
use Rattle.std.proofs.Common.{arith}
use Rattle.sheet_stream.proofs.workspace.means_of.Goals as goal

pub windows_of-requires-clause-columns : goal.windows_of-requires-clause-columns
windows_of-requires-clause-columns c = grind (arith, common_steps)

pub second_workspace-requires-clause-columns : goal.second_workspace-requires-clause-columns
second_workspace-requires-clause-columns c = grind (arith, common_steps)

pub returns-clause-pieces : goal.returns-clause-pieces
returns-clause-pieces c = grind (arith, common_steps)
