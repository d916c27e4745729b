use Rattle.std.proofs.Common.{length}
use Rattle.keep_words.proofs.whites.+names_ink.Given as goal

abbrev pub decreases-names_ink : goal.decreases-names_ink
decreases-names_ink l = length l.words.now
