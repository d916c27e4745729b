-- put_words_row: goals that the search finds slowly.
use Rattle.std.proofs.lemmas.Grind.{common_steps}
use Rattle.std.proofs.Common.{arith}
use Rattle.trap_c.proofs.planes.put_words_row.Goals as goal

pub returns : goal.returns
returns c = grind (arith, common_steps)
