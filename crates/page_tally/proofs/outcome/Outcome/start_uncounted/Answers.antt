-- start_uncounted: goals that the search finds slowly.
use Rattle.std.proofs.lemmas.Grind.{common_steps}
use Rattle.std.proofs.Common.{arith}
use Rattle.page_tally.proofs.outcome.Outcome.start_uncounted.Goals as goal

pub returns-clause-tints : goal.returns-clause-tints
returns-clause-tints c = grind (arith, common_steps)
