-- copy_row: writes the page's own tints of row y, plate after plate.
use Rattle.std.proofs.Common.{◌∙◌, ℕ}
use Rattle.page_model.specs.Page.{tint, width}
use Rattle.row_values.proofs.RowLemmas.{rows_more}
use Rattle.row_values.proofs.tint_rows.copy_row.Goals as goal

pub loop-c-preserved : goal.loop-c-preserved
loop-c-preserved c = record {
  end = c.loop-c.invariant.end;
  long = c.copy_tints.ensures.len ∙ c.loop-c.invariant.long;
  done = rows_more (width c.args.page.now) c.loop-c.c (λ (j x : ℕ). tint c.args.page.now j (record { x = x; y = c.args.y })) c.loop-c.out c.copy_tints.new.out c.copy_tints.ensures.kept c.copy_tints.ensures.here c.loop-c.invariant.done;
}
