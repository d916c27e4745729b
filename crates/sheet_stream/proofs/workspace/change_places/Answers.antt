-- change_places: goals that the search finds slowly.
use Rattle.std.proofs.lemmas.Grind.{common_steps}
use Rattle.std.proofs.Common.{arith}
use Rattle.sheet_stream.proofs.workspace.change_places.Goals as goal

pub of-next-requires : goal.of-next-requires
of-next-requires c = grind (arith, common_steps)
