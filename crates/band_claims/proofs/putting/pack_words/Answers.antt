-- pack_words: goals that the search finds slowly.
use Rattle.std.proofs.Common.{arith}
use Rattle.std.proofs.lemmas.Grind.{common_steps}
use Rattle.band_claims.proofs.putting.pack_words.Goals as goal

pub returns-clause-words : goal.returns-clause-words
returns-clause-words g c = grind (arith, common_steps)

pub loop-k-preserved : goal.loop-k-preserved
loop-k-preserved g c = grind (arith, common_steps)

pub values_word-requires-clause-values : goal.values_word-requires-clause-values
values_word-requires-clause-values g c = grind (arith, common_steps)
