-- What becomes less at each call of work_many by itself.
use Rattle.std.proofs.Common.{◌+◌, ◌*◌, length}
use Rattle.band_claims.proofs.walks.+fn-work_many-join+arg2+fn-work_many-join+arg3+work_many.Given as goal

abbrev pub decreases-join+arg2 : goal.decreases-join+arg2
decreases-join+arg2 g l = 2 * length l.left.now + 1

abbrev pub decreases-join+arg3 : goal.decreases-join+arg3
decreases-join+arg3 g l = 2 * length l.right.now + 1

abbrev pub decreases-work_many : goal.decreases-work_many
decreases-work_many g l = 2 * length l.makers.now
