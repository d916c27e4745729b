-- ends_are_runs_law: the words that a table was closed with are the board that a run of the page
-- leads to.
use Rattle.band_claims.proofs.Steps.{ends_are_runs}
use Rattle.band_claims.proofs.laws.ends_are_runs_law.Goals as goal

pub returns : goal.returns
returns c = ends_are_runs
