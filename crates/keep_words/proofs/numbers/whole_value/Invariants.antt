-- The loops of whole_value: the number that digits spell, as far as `ENOUGH`.
use Rattle.std.proofs.Common.{◌≡◌, take, min}
use Rattle.keep_words.specs.Numbers.{decimal}
use Rattle.keep_words.proofs.numbers.whole_value.Given as goal

abbrev pub invariant-loop-digit : goal.invariant-loop-digit
invariant-loop-digit l = l.value ≡ min (decimal (take l.digit-index l.digits)) 1000
