-- What becomes less where plates are judged in shares, and each share by fewer workers.
use Rattle.std.proofs.Common.{◌+◌, ◌-◌, ◌*◌}
use Rattle.plate_rows.proofs.sharing.+shares.Given as goal

abbrev pub decreases-judge_share : goal.decreases-judge_share
decreases-judge_share g l = 4 * l.workers

abbrev pub decreases-judge_beside : goal.decreases-judge_beside
decreases-judge_beside g l = 4 * (l.share.now.workers + l.share_after.now.workers) - 1

abbrev pub decreases-judge_beside-first : goal.decreases-judge_beside-first
decreases-judge_beside-first g l = 4 * l.share.now.workers + 1

abbrev pub decreases-judge_beside-second : goal.decreases-judge_beside-second
decreases-judge_beside-second g l = 4 * l.share_after.now.workers + 1
