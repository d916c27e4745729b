-- are_plates: whether the words are plates, and not too many.
use Rattle.std.proofs.Common.{arith}
use Rattle.std.proofs.lemmas.Grind.{common_steps}
use Rattle.plain_words.proofs.plates.are_plates.Goals as goal

pub returns-then-words-le-MOST_PLATES-clause-value : goal.returns-then-words-le-MOST_PLATES-clause-value
returns-then-words-le-MOST_PLATES-clause-value g c = grind (arith, common_steps)

pub returns-else-words-le-MOST_PLATES-clause-value : goal.returns-else-words-le-MOST_PLATES-clause-value
returns-else-words-le-MOST_PLATES-clause-value g c = grind (arith, common_steps)
