-- The loops of limits_of: the limits of these keys, in their order.
use Rattle.std.proofs.Common.{◌≡◌, take}
use Rattle.job_parts.specs.Limits.{limits_of}
use Rattle.job_parts.proofs.limits.limits_of.Given as goal

abbrev pub invariant-loop-key : goal.invariant-loop-key
invariant-loop-key l = l.limits.items ≡ limits_of l.objects (take l.key-index l.keys)
