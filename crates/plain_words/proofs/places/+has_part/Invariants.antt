-- What becomes less at each call of has_part by itself.
use Rattle.std.proofs.Common.{length}
use Rattle.plain_words.proofs.places.+has_part.Given as goal

abbrev pub decreases-has_part : goal.decreases-has_part
decreases-has_part g l = length l.words.now
