-- How far the loops of `limits_of` have come.
use Rattle.std.proofs.Common.{◌≡◌, take}
use Rattle.sheet_geometry.proofs.copies.limits_of.Given as goal

abbrev pub invariant-loop-limit : goal.invariant-loop-limit
invariant-loop-limit l = l.copies ≡ take l.limit-index l.limits
