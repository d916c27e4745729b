-- The loops of first_error: of the faults of these keys the one that stands first.
use Rattle.std.proofs.Common.{◌≡◌, take}
use Rattle.job_parts.specs.Colorants.{first_error}
use Rattle.job_parts.proofs.colorants.first_error.Given as goal

abbrev pub invariant-loop-key : goal.invariant-loop-key
invariant-loop-key l = l.first ≡ first_error l.objects (take l.key-index l.keys)
