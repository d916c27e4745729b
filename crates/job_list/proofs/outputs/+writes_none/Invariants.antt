-- What becomes less at each call of writes_none by itself.
use Rattle.std.proofs.Common.{length}
use Rattle.job_list.proofs.outputs.+writes_none.Given as goal

abbrev pub decreases-writes_none : goal.decreases-writes_none
decreases-writes_none l = length l.names.now
