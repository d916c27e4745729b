-- make_marks: writes the marks of the samples of these rows, row by row.
use Rattle.std.proofs.Common.{◌∙◌, ◌+◌, ℕ}
use Rattle.page_model.specs.Deciding.{mark}
use Rattle.page_model.specs.Page.{width}
use Rattle.row_values.proofs.RowLemmas.{rows_more}
use Rattle.row_values.proofs.marks.make_marks.Goals as goal

pub loop-k-preserved : goal.loop-k-preserved
loop-k-preserved c = record {
  end = c.loop-k.invariant.end;
  long = c.write_marks.ensures.len ∙ c.loop-k.invariant.long;
  done = rows_more (width c.args.page.now) c.loop-k.k (λ (j : ℕ). mark c.args.page.now (c.args.rows.first + j)) c.loop-k.out c.write_marks.new.out c.write_marks.ensures.kept c.write_marks.ensures.here c.loop-k.invariant.done;
}
