-- no_false_claims_law: no step can be proved that tells of a piece as claimed, or as free, whatever
-- its word is.
use Rattle.band_claims.proofs.Refuted.{no_false_claims}
use Rattle.band_claims.proofs.laws.no_false_claims_law.Goals as goal

pub returns : goal.returns
returns c = no_false_claims
