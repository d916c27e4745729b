-- looks_are_honest_law: only steps that tell of each word as it is can be allowed.
use Rattle.band_claims.proofs.Refuted.{looks_are_honest}
use Rattle.band_claims.proofs.laws.looks_are_honest_law.Goals as goal

pub returns : goal.returns
returns c = looks_are_honest
