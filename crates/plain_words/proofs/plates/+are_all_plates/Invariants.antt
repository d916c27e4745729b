-- What becomes less at each call of are_all_plates by itself.
use Rattle.std.proofs.Common.{length}
use Rattle.plain_words.proofs.plates.+are_all_plates.Given as goal

abbrev pub decreases-are_all_plates : goal.decreases-are_all_plates
decreases-are_all_plates g l = length l.words.now
