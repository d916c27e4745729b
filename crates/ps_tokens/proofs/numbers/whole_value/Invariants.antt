-- The loops of whole_value: the number that digits spell, as far as `LARGEST_WHOLE` and one more.
use Rattle.std.proofs.Common.{◌≡◌, ◌+◌, take, min}
use Rattle.ps_tokens.specs.Limits.{largest_whole}
use Rattle.ps_tokens.specs.Numbers.{decimal}
use Rattle.ps_tokens.proofs.numbers.whole_value.Given as goal

abbrev pub invariant-loop-digit : goal.invariant-loop-digit
invariant-loop-digit l = l.value ≡ min (decimal (take l.digit-index l.digits)) (largest_whole + 1)
