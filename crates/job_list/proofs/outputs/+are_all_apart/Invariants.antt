-- What becomes less at each call of are_all_apart by itself.
use Rattle.std.proofs.Common.{length}
use Rattle.job_list.proofs.outputs.+are_all_apart.Given as goal

abbrev pub decreases-are_all_apart : goal.decreases-are_all_apart
decreases-are_all_apart l = length l.earlier.now
