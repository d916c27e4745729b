-- The loops of count_digits: how many digits the text begins with.
use Rattle.std.proofs.Common.{◌≡◌, ℕ, ◌<◌, true, get_or}
use Rattle.std.specs.Char.{is_ascii_digit}
use Rattle.trap_set.proofs.numbers.count_digits.Given as goal

abbrev pub invariant-loop-place : goal.invariant-loop-place
invariant-loop-place l = (k : ℕ) → k < l.place → is_ascii_digit (get_or l.text k 0) ≡ true
