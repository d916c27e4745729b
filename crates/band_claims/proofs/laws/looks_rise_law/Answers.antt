-- looks_rise_law: of two looks at one piece that a seat tells of, the later one found no less.
use Rattle.band_claims.proofs.Past.{looks_rise}
use Rattle.band_claims.proofs.laws.looks_rise_law.Goals as goal

pub returns : goal.returns
returns c = looks_rise
