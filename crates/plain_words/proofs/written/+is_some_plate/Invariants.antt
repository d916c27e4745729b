-- What becomes less at each call of is_some_plate by itself.
use Rattle.std.proofs.Common.{length}
use Rattle.plain_words.proofs.written.+is_some_plate.Given as goal

abbrev pub decreases-is_some_plate : goal.decreases-is_some_plate
decreases-is_some_plate g l = length l.words.now
