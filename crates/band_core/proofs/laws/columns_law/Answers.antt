-- columns_law: an edge within reach of a row lies at most half the reach of rows away, cut up to
-- whole rows, and so in a band that is at most these rows, cut up to whole bands, away.
use Rattle.band_core.proofs.Halo.{columns_law}
use Rattle.band_core.proofs.laws.columns_law.Goals as goal

pub returns : goal.returns
returns c = columns_law
