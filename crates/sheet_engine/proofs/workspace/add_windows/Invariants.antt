-- The loops of add_windows: adds what is counted in the windows of a strip.
use Rattle.std.proofs.Common.{drop}
use Rattle.std.specs.Prelude.{map}
use Rattle.page_model.specs.Page.{width}
use Rattle.sheet_geometry.specs.Spans.{AreSpans}
use Rattle.sheet_engine.specs.declared.workspace.WindowWorkspace.{WindowWorkspace}
use Rattle.sheet_engine.specs.Growth.{AddsArea}
use Rattle.sheet_engine.proofs.workspace.add_windows.Given as goal

abbrev pub invariant-loop-k : goal.invariant-loop-k
invariant-loop-k l = record {
  spans : AreSpans l.across l.left (drop l.k (map (λ (w : WindowWorkspace). w.column) l.windows)) (width l.sheet);
  counts : AddsArea l.sheet 0 l.at l.left l.row.core l.fn.counts l.counts;
}
