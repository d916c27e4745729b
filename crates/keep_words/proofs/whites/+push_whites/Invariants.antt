use Rattle.std.proofs.Common.{length}
use Rattle.keep_words.proofs.whites.+push_whites.Given as goal

abbrev pub decreases-push_whites : goal.decreases-push_whites
decreases-push_whites l = length l.words.now
