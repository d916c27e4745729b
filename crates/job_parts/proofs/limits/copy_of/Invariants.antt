-- The loops of copy_of: a copy of limits.
use Rattle.std.proofs.Common.{◌≡◌, take}
use Rattle.job_parts.proofs.limits.copy_of.Given as goal

abbrev pub invariant-loop-limit : goal.invariant-loop-limit
invariant-loop-limit l = l.limits.items ≡ take l.limit-index l.limit-items
