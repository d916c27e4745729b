-- whole_value: goals that the search finds slowly.
use Rattle.std.proofs.Common.{arith}
use Rattle.std.proofs.lemmas.Grind.{common_steps}
use Rattle.keep_words.proofs.numbers.whole_value.Goals as goal

pub loop-digit-preserved : goal.loop-digit-preserved
loop-digit-preserved c = grind (arith, common_steps)
