-- stream: goals that the search finds slowly.
use Rattle.std.proofs.Common.{arith}
use Rattle.std.proofs.lemmas.Grind.{common_steps}
use Rattle.sheet_files.proofs.streaming.stream.Goals as goal

pub stream_workspace-requires-clause-can : goal.stream_workspace-requires-clause-can
stream_workspace-requires-clause-can g c = grind (arith, common_steps)

pub stream_in-requires-clause-can : goal.stream_in-requires-clause-can
stream_in-requires-clause-can g c = grind (arith, common_steps)

pub stream_in-requires-clause-outputs : goal.stream_in-requires-clause-outputs
stream_in-requires-clause-outputs g c = grind (arith, common_steps)

pub stream_in-requires-clause-inputs : goal.stream_in-requires-clause-inputs
stream_in-requires-clause-inputs g c = grind (arith, common_steps)

pub stream_in-requires-clause-counts : goal.stream_in-requires-clause-counts
stream_in-requires-clause-counts g c = grind (arith, common_steps)

pub stream_in-requires-clause-trays : goal.stream_in-requires-clause-trays
stream_in-requires-clause-trays g c = grind (arith, common_steps)

pub stream_in-requires-clause-racks : goal.stream_in-requires-clause-racks
stream_in-requires-clause-racks g c = grind (arith, common_steps)

pub stream_in-requires-clause-header : goal.stream_in-requires-clause-header
stream_in-requires-clause-header g c = grind (arith, common_steps)

pub stream_workspace-requires-clause-across : goal.stream_workspace-requires-clause-across
stream_workspace-requires-clause-across g c = grind (arith, common_steps)
