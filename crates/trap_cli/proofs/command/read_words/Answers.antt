-- read_words: goals that the search finds slowly.
use Rattle.std.proofs.Common.{arith}
use Rattle.std.proofs.lemmas.Grind.{common_steps}
use Rattle.trap_cli.proofs.command.read_words.Goals as goal

pub returns-then-eq-2-clause-meaning : goal.returns-then-eq-2-clause-meaning
returns-then-eq-2-clause-meaning c = grind (arith, common_steps)

pub returns-in-empty-clause-meaning : goal.returns-in-empty-clause-meaning
returns-in-empty-clause-meaning c = grind (arith, common_steps)

pub returns-then-eq-clause-memory : goal.returns-then-eq-clause-memory
returns-then-eq-clause-memory c = grind (arith, common_steps)

pub returns-then-eq-clause-meaning : goal.returns-then-eq-clause-meaning
returns-then-eq-clause-meaning c = grind (arith, common_steps)
