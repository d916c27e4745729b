-- read_raster: goals that the search finds slowly.
use Rattle.std.proofs.Common.{arith}
use Rattle.std.proofs.lemmas.Grind.{common_steps}
use Rattle.pgm_plates.proofs.raster.read_raster.Goals as goal

pub returns-in-Ok-read_pieces-clause-below : goal.returns-in-Ok-read_pieces-clause-below
returns-in-Ok-read_pieces-clause-below g c = grind (arith, common_steps)

pub returns-in-Ok-read_pieces-clause-uncut : goal.returns-in-Ok-read_pieces-clause-uncut
returns-in-Ok-read_pieces-clause-uncut g c = grind (arith, common_steps)
