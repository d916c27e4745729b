-- copies_of: goals that the search finds slowly.
use Rattle.std.proofs.lemmas.Grind.{common_steps}
use Rattle.std.proofs.Common.{arith}
use Rattle.job_list.proofs.words.copies_of.Goals as goal

pub loop-text-preserved : goal.loop-text-preserved
loop-text-preserved c = grind (arith, common_steps)
