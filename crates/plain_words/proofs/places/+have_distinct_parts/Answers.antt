-- have_distinct_parts: whether no text stands twice at that place.
use Rattle.std.proofs.Common.{arith}
use Rattle.std.proofs.lemmas.Grind.{common_steps}
use Rattle.plain_words.proofs.places.+have_distinct_parts.Goals as goal

pub returns-then-not-has_part : goal.returns-then-not-has_part
returns-then-not-has_part g c = grind (arith, common_steps)

pub returns-else-not-has_part : goal.returns-else-not-has_part
returns-else-not-has_part g c = grind (arith, common_steps)
