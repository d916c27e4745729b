-- write_plane: goals that the search finds slowly.
use Rattle.std.proofs.Common.{arith}
use Rattle.std.proofs.lemmas.Grind.{common_steps}
use Rattle.pgm_plates.proofs.writing.write_plane.Goals as goal

pub returns : goal.returns
returns g c = grind (arith, common_steps)
