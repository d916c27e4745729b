-- The loops of random_planes: planes of one shape, each with other samples.
use Rattle.std.proofs.Common.{◌≡◌, vec_len}
use Rattle.std.specs.List.{All}
use Rattle.misregister.proofs.SmallSheets.{IsSmall}
use Rattle.presscheck_tests.proofs.tests.counts.random_planes.Given as goal

abbrev pub invariant-loop-c : goal.invariant-loop-c
invariant-loop-c l = record { count : vec_len l.planes ≡ l.c; small : All (IsSmall l.width l.height) l.planes.items }
