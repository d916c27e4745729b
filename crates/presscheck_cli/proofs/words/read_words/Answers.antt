-- read_words: goals that the search finds slowly.
use Rattle.std.proofs.lemmas.Grind.{common_steps}
use Rattle.std.proofs.Common.{arith}
use Rattle.presscheck_cli.proofs.words.read_words.Goals as goal

pub returns-in-len2-up-clause-meaning : goal.returns-in-len2-up-clause-meaning
returns-in-len2-up-clause-meaning c = grind (arith, common_steps)
