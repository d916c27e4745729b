-- looks_are_told_law: the looks that a seat tells of end what it was told.
use Rattle.band_claims.proofs.Past.{looks_are_reported}
use Rattle.band_claims.proofs.laws.looks_are_reported_law.Goals as goal

pub returns : goal.returns
returns c = looks_are_reported
