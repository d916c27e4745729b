-- read_words: goals that the search finds slowly.
use Rattle.std.proofs.lemmas.Grind.{common_steps}
use Rattle.std.proofs.Common.{arith}
use Rattle.traprun_cli.proofs.words.read_words.Goals as goal

pub returns-in-len4-up-clause-meaning : goal.returns-in-len4-up-clause-meaning
returns-in-len4-up-clause-meaning c = grind (arith, common_steps)

pub returns-in_default-clause-meaning : goal.returns-in_default-clause-meaning
returns-in_default-clause-meaning c = grind (arith, common_steps)
