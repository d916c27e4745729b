-- How far the loops of `some_planes` have come.
use Rattle.std.proofs.Common.{◌≡◌, length}
use Rattle.std.specs.Prelude.{All}
use Rattle.page_model.specs.Conditions.{IsPlane}
use Rattle.engine_tests.proofs.random_pages.some_planes.Given as goal

abbrev pub invariant-loop-c : goal.invariant-loop-c
invariant-loop-c g l = record { count : length l.planes ≡ l._c; planes : All IsPlane l.planes }
