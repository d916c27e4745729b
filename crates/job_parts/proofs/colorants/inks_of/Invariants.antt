-- The loops of inks_of: the inks of these keys, in their order.
use Rattle.std.proofs.Common.{◌≡◌, take}
use Rattle.job_parts.specs.Colorants.{inks_of}
use Rattle.job_parts.proofs.colorants.inks_of.Given as goal

abbrev pub invariant-loop-key : goal.invariant-loop-key
invariant-loop-key l = l.inks.items ≡ inks_of l.objects (take l.key-index l.keys)
