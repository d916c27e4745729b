-- zones_law: a zone is found at each sample by itself, so a band needs no other band.
use Rattle.band_core.proofs.Halo.{zones_law}
use Rattle.band_core.proofs.laws.zones_law.Goals as goal

pub returns : goal.returns
returns c = zones_law
