-- read_sample: goals that the search finds slowly.
use Rattle.std.proofs.lemmas.Grind.{common_steps}
use Rattle.std.proofs.Common.{arith}
use Rattle.trap_cli.proofs.sample_words.read_sample.Goals as goal

pub returns-in-len4-clause-meaning : goal.returns-in-len4-clause-meaning
returns-in-len4-clause-meaning c = grind (arith, common_steps)
