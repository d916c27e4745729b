-- done_stays_done_law: whatever the closed table's run was.
use Rattle.band_claims.proofs.Past.{done_stays_done}
use Rattle.band_claims.proofs.laws.done_stays_done_law.Goals as goal

pub returns : goal.returns
returns c = done_stays_done
