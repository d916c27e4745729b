-- The loops of add_column: adds the deciding edges of a column of the doubled grid.
use Rattle.std.proofs.Common.{◌≡◌, ◌*◌, ◌-◌, All}
use Rattle.page_model.specs.Edges.{IsEdge}
use Rattle.page_model.specs.Page.{height}
use Rattle.engine_tests.proofs.slow_edges.add_column.Given as goal

abbrev pub invariant-loop-y2 : goal.invariant-loop-y2
invariant-loop-y2 g l = record { end : l.y2-end ≡ 2 * height l.page - 1; edges : All (IsEdge l.page) l.edges }
