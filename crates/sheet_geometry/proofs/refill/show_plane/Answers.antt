-- show_plane: goals that the search finds slowly.
use Rattle.std.proofs.lemmas.Grind.{common_steps}
use Rattle.std.proofs.Common.{arith}
use Rattle.sheet_geometry.proofs.refill.show_plane.Goals as goal

pub show_tints-requires-clause-covers : goal.show_tints-requires-clause-covers
show_tints-requires-clause-covers c = grind (arith, common_steps)

pub returns : goal.returns
returns c = grind (arith, common_steps)
