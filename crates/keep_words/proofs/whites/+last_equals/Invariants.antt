use Rattle.std.proofs.Common.{length}
use Rattle.keep_words.proofs.whites.+last_equals.Given as goal

abbrev pub decreases-last_equals : goal.decreases-last_equals
decreases-last_equals l = length l.bytes.now
