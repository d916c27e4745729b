-- What `no_false_looks_law` has to show.
use Rattle.band_claims.proofs.Refuted.{no_false_looks}
use Rattle.band_claims.proofs.laws.no_false_looks_law.Goals as goal

pub returns : goal.returns
returns c = no_false_looks
