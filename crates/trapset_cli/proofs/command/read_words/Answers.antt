-- read_words: goals that the search finds slowly.
use Rattle.std.proofs.Common.{arith}
use Rattle.std.proofs.lemmas.Grind.{common_steps}
use Rattle.trapset_cli.proofs.command.read_words.Goals as goal

pub returns-in_ok-read_traps-in-len1-up-clause-meaning : goal.returns-in_ok-read_traps-in-len1-up-clause-meaning
returns-in_ok-read_traps-in-len1-up-clause-meaning c = grind (arith, common_steps)

pub returns-in_err-read_traps-in-len1-up-clause-meaning : goal.returns-in_err-read_traps-in-len1-up-clause-meaning
returns-in_err-read_traps-in-len1-up-clause-meaning c = grind (arith, common_steps)

pub returns-in_err-read_apply-in-len1-up-clause-meaning : goal.returns-in_err-read_apply-in-len1-up-clause-meaning
returns-in_err-read_apply-in-len1-up-clause-meaning c = grind (arith, common_steps)

pub returns-in_ok-read_apply-in-len1-up-clause-meaning : goal.returns-in_ok-read_apply-in-len1-up-clause-meaning
returns-in_ok-read_apply-in-len1-up-clause-meaning c = grind (arith, common_steps)
