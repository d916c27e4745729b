-- What becomes less at each call of have_distinct_parts by itself.
use Rattle.std.proofs.Common.{length}
use Rattle.plain_words.proofs.places.+have_distinct_parts.Given as goal

abbrev pub decreases-have_distinct_parts : goal.decreases-have_distinct_parts
decreases-have_distinct_parts g l = length l.words.now
