-- page_with: goals that the search finds slowly.
use Rattle.std.proofs.lemmas.Grind.{common_steps}
use Rattle.std.proofs.Common.{arith}
use Rattle.trap_cli.proofs.page_words.page_with.Goals as goal

pub returns-clause-limits : goal.returns-clause-limits
returns-clause-limits c = grind (arith, common_steps)
