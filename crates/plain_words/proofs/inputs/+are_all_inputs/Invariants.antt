-- What becomes less at each call of are_all_inputs by itself.
use Rattle.std.proofs.Common.{length}
use Rattle.plain_words.proofs.inputs.+are_all_inputs.Given as goal

abbrev pub decreases-are_all_inputs : goal.decreases-are_all_inputs
decreases-are_all_inputs l = length l.words.now
