-- traps_law: the nearest edge of a sample is the nearest of its row's column answers, or it is out
-- of reach and traps nothing, so the band's own answers are enough.
use Rattle.band_core.proofs.Halo.{traps_law}
use Rattle.band_core.proofs.laws.traps_law.Goals as goal

pub returns : goal.returns
returns c = traps_law
