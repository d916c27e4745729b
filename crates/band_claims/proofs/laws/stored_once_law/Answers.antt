-- held_once_law: a claimed piece is held by exactly one view, and no other piece by any.
use Rattle.band_claims.proofs.Readable.{stored_once}
use Rattle.band_claims.proofs.laws.stored_once_law.Goals as goal

pub returns : goal.returns
returns c = stored_once
