-- The loops of make_marks: writes the marks of the samples of these rows, row by row.
use Rattle.std.proofs.Common.{◌≡◌, ◌+◌, ◌*◌, ◌<◌, ℕ, length, slice_index}
use Rattle.page_model.specs.Deciding.{mark}
use Rattle.page_model.specs.Page.{width}
use Rattle.row_values.proofs.marks.make_marks.Given as goal

abbrev pub invariant-loop-k : goal.invariant-loop-k
invariant-loop-k l = record {
  end : l.k-end ≡ l.rows.count;
  long : length l.out ≡ l.rows.count * width l.page;
  done : (j o : ℕ) → j < l.k → o < width l.page → slice_index l.out (j * width l.page + o) ≡ mark l.page (l.rows.first + j) o;
}
