use Rattle.std.proofs.Common.{◌≡◌, ◌<◌, ℕ, true}
use Rattle.keepaway.specs.Keepaway.{is_black_ink}
use Rattle.keepaway.proofs.levels.is_black_everywhere.Given as goal

abbrev pub invariant-loop-z : goal.invariant-loop-z
invariant-loop-z l = (k : ℕ) → k < l.z → is_black_ink l.page k l.c ≡ true
