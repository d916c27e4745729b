-- The loops of make_tints: writes the new tints of these rows, in each row plate after plate, from
-- the zones of their samples and their column answers.
use Rattle.std.proofs.Common.{◌≡◌, ◌+◌, ◌*◌, ◌<◌, ℕ, length, slice_index}
use Rattle.page_model.specs.Page.{plates, width}
use Rattle.row_values.specs.Rows.{tint_value}
use Rattle.row_values.proofs.tints.make_tints.Given as goal

abbrev pub invariant-loop-k : goal.invariant-loop-k
invariant-loop-k l = record {
  end : l.k-end ≡ l.rows.count;
  long : length l.out ≡ l.rows.count * (plates l.page * width l.page);
  workspace : l.workspace ≡ l.initial.workspace;
  done : (j o : ℕ) → j < l.k → o < plates l.page * width l.page → slice_index l.out (j * (plates l.page * width l.page) + o) ≡ tint_value l.page (l.rows.first + j) o;
}
