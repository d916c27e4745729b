-- The loops of trap_rows: traps the strips of these rows, one below the other, into tints and counts
-- of none.
use Rattle.std.proofs.Common.{◌≡◌, drop, length}
use Rattle.std.specs.Prelude.{IfSome}
use Rattle.page_model.specs.Page.{height, width}
use Rattle.sheet_geometry.specs.Spans.{AreSpans}
use Rattle.sheet_engine.specs.Whole.{AreTintsTo}
use Rattle.sheet_files.specs.Kept.{IsKept}
use Rattle.sheet_geometry.specs.Forms.{form_of}
use Rattle.sheet_engine.specs.Growth.{AddsArea}
use Rattle.sheet_files.proofs.whole.trap_rows.Given as goal

abbrev pub invariant-loop-row : goal.invariant-loop-row
invariant-loop-row g l = record {
  spans : AreSpans l.cut.down.now l.at (drop l.row-index l.cut.rows.now) (height l.sheet);
  tints : AreTintsTo l.sheet l.at l.work.tints;
  counts : AddsArea l.sheet 0 0 (width l.sheet) l.at l.fn.work.counts l.work.counts;
  line : length l.work.line.items ≡ width l.sheet;
  kept : IfSome l.kept (IsKept (form_of l.sheet) l.cut.columns.now);
}
