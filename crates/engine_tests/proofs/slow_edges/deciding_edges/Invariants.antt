-- The loops of deciding_edges: all deciding edges of the page.
use Rattle.std.proofs.Common.{◌≡◌, ◌*◌, ◌-◌, All}
use Rattle.page_model.specs.Edges.{IsEdge}
use Rattle.page_model.specs.Page.{width}
use Rattle.engine_tests.proofs.slow_edges.deciding_edges.Given as goal

abbrev pub invariant-loop-x2 : goal.invariant-loop-x2
invariant-loop-x2 g l = record { end : l.x2-end ≡ 2 * width l.page - 1; edges : All (IsEdge l.page) l.edges }
