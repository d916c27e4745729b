-- The loops of random_tints: random samples, of eight so many without ink.
use Rattle.std.proofs.Common.{◌≡◌, ◌≤◌, ℕ, vec_len}
use Rattle.std.specs.List.{All}
use Rattle.presscheck_tests.proofs.tests.counts.random_tints.Given as goal

abbrev pub invariant-loop : goal.invariant-loop
invariant-loop l = record { count : vec_len l.tints ≡ l.counter; below : All (λ (t : ℕ). t ≤ 255) l.tints.items }
