-- The loops of first_reach: the first place that none of the first samples of a row bares.
use Rattle.std.proofs.Common.{◌≡◌}
use Rattle.misregister.specs.Sweep.{bared_until, is_clear}
use Rattle.misregister.proofs.row.first_reach.Given as goal

abbrev pub invariant-loop-x : goal.invariant-loop-x
invariant-loop-x l = l.reach ≡ bared_until (is_clear l.row) l.radius l.x
