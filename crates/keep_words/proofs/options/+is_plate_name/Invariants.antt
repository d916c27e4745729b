use Rattle.std.proofs.Common.{length}
use Rattle.keep_words.proofs.options.+is_plate_name.Given as goal

abbrev pub decreases-is_plate_name : goal.decreases-is_plate_name
decreases-is_plate_name l = length l.plates.now
