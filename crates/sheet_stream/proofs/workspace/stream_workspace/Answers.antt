-- stream_room: goals that the search finds slowly.
use Rattle.std.proofs.lemmas.Grind.{common_steps}
use Rattle.std.proofs.Common.{arith}
use Rattle.sheet_stream.proofs.workspace.stream_workspace.Goals as goal

pub workspace_of-requires-clause-row : goal.workspace_of-requires-clause-row
workspace_of-requires-clause-row c = grind (arith, common_steps)

pub workspace_of-requires-clause-columns : goal.workspace_of-requires-clause-columns
workspace_of-requires-clause-columns c = grind (arith, common_steps)
