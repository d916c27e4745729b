-- looks_are_past_law: whatever steps were made.
use Rattle.band_claims.proofs.Past.{looks_are_past}
use Rattle.band_claims.proofs.laws.looks_are_past_law.Goals as goal

pub returns : goal.returns
returns c = looks_are_past
