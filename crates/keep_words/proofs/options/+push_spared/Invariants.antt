use Rattle.std.proofs.Common.{length}
use Rattle.keep_words.proofs.options.+push_spared.Given as goal

abbrev pub decreases-push_spared : goal.decreases-push_spared
decreases-push_spared l = length l.words.now
