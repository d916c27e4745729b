-- edges_law: an edge lies between a row and itself or the next one, so a band and the one below it
-- are enough.
use Rattle.band_core.proofs.Halo.{edges_law}
use Rattle.band_core.proofs.laws.edges_law.Goals as goal

pub returns : goal.returns
returns c = edges_law
