-- add_ink: goals that the search finds slowly.
use Rattle.std.proofs.lemmas.Grind.{common_steps}
use Rattle.std.proofs.Common.{arith}
use Rattle.page_source.proofs.sample.add_ink.Goals as goal

pub returns : goal.returns
returns c = grind (arith, common_steps)
