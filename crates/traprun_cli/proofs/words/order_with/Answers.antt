-- order_with: goals that the search finds slowly.
use Rattle.std.proofs.lemmas.Grind.{common_steps}
use Rattle.std.proofs.Common.{arith}
use Rattle.traprun_cli.proofs.words.order_with.Goals as goal

pub returns-in_ok-band-clause-meaning : goal.returns-in_ok-band-clause-meaning
returns-in_ok-band-clause-meaning c = grind (arith, common_steps)

pub returns-in_err-band-clause-limits : goal.returns-in_err-band-clause-limits
returns-in_err-band-clause-limits c = grind (arith, common_steps)

pub returns-in_ok-band-clause-limits : goal.returns-in_ok-band-clause-limits
returns-in_ok-band-clause-limits c = grind (arith, common_steps)
