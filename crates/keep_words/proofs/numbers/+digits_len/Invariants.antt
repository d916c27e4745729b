use Rattle.std.proofs.Common.{length}
use Rattle.keep_words.proofs.numbers.+digits_len.Given as goal

abbrev pub decreases-digits_len : goal.decreases-digits_len
decreases-digits_len l = length l.bytes.now
