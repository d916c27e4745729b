-- The loops of some_tints: few tints, each for some whole runs.
use Rattle.std.proofs.Common.{◌≡◌, ◌≤◌}
use Rattle.std.specs.Prelude.{All, vec_len}
use Rattle.engine_tests.proofs.random_pages.some_tints.Given as goal

abbrev pub invariant-loop-k : goal.invariant-loop-k
invariant-loop-k g l = record { long : vec_len l.tints ≡ l.k; deep : All (λ t. t ≤ 255) l.tints.items }
