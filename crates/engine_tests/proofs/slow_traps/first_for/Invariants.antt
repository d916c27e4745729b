-- The loops of first_for: the first of the edges for p.
use Rattle.std.specs.Option.{ForSome}
use Rattle.page_model.specs.Edges.{IsEdge}
use Rattle.engine_tests.proofs.slow_traps.first_for.Given as goal

abbrev pub invariant-loop-e : goal.invariant-loop-e
invariant-loop-e l = ForSome l.found (IsEdge l.page)
