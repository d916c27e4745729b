-- What becomes less at each call of are_all_copies by itself.
use Rattle.std.proofs.Common.{length}
use Rattle.trapset_cli.proofs.plates.+are_all_copies.Given as goal

abbrev pub decreases-are_all_copies : goal.decreases-are_all_copies
decreases-are_all_copies l = length l.words.now
