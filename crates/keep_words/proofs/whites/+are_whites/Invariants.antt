use Rattle.std.proofs.Common.{length}
use Rattle.keep_words.proofs.whites.+are_whites.Given as goal

abbrev pub decreases-are_whites : goal.decreases-are_whites
decreases-are_whites l = length l.words.now
