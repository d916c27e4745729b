-- published_once_law: no list of published pieces has a piece twice, and no piece stands in the
-- lists of two views.
use Rattle.band_claims.proofs.Readable.{published_once}
use Rattle.band_claims.proofs.laws.published_once_law.Goals as goal

pub returns : goal.returns
returns c = published_once
