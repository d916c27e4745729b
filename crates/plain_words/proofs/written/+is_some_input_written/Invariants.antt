-- What becomes less at each call of is_some_input_written by itself.
use Rattle.std.proofs.Common.{length}
use Rattle.plain_words.proofs.written.+is_some_input_written.Given as goal

abbrev pub decreases-is_some_input_written : goal.decreases-is_some_input_written
decreases-is_some_input_written g l = length l.words.now
