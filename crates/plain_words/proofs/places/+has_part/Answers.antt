-- has_part: whether some word has that text at that place.
use Rattle.std.proofs.Common.{arith}
use Rattle.std.proofs.lemmas.Grind.{common_steps}
use Rattle.plain_words.proofs.places.+has_part.Goals as goal

pub returns-else-eq : goal.returns-else-eq
returns-else-eq g c = grind (arith, common_steps)

pub returns-then-eq : goal.returns-then-eq
returns-then-eq g c = grind (arith, common_steps)
