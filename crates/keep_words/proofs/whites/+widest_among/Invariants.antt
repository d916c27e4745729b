use Rattle.std.proofs.Common.{length}
use Rattle.keep_words.proofs.whites.+widest_among.Given as goal

abbrev pub decreases-widest_among : goal.decreases-widest_among
decreases-widest_among l = length l.words.now
