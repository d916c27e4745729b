-- steps_are_a_run_law: whatever steps any seats make on a table, in any order.
use Rattle.band_claims.proofs.Steps.{steps_are_run}
use Rattle.band_claims.proofs.laws.steps_are_a_run_law.Goals as goal

pub returns : goal.returns
returns c = steps_are_run
