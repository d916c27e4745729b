-- make_tints: writes the new tints of these rows, in each row plate after plate, from the zones of
-- their samples and their column answers.
use Rattle.std.proofs.Common.{◌∙◌, ◌+◌, ◌*◌, ℕ}
use Rattle.page_model.specs.Page.{plates, width}
use Rattle.row_values.specs.Rows.{tint_value}
use Rattle.row_values.proofs.RowLemmas.{rows_more}
use Rattle.row_values.proofs.tints.make_tints.Goals as goal

pub loop-k-preserved : goal.loop-k-preserved
loop-k-preserved c = record {
  end = c.loop-k.invariant.end;
  long = c.write_tints.ensures.len ∙ c.loop-k.invariant.long;
  workspace = c.write_tints.ensures.workspace ∙ c.loop-k.invariant.workspace;
  done = rows_more (plates c.args.page.now * width c.args.page.now) c.loop-k.k (λ (j : ℕ). tint_value c.args.page.now (c.args.rows.first + j)) c.loop-k.out c.write_tints.new.out c.write_tints.ensures.kept c.write_tints.ensures.here c.loop-k.invariant.done;
}
