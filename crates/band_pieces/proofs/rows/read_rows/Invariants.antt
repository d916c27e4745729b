-- The loops of read_rows: the values of a phase of these rows, row by row, where the pieces of
-- their bands are known.
use Rattle.std.proofs.Common.{◌≡◌, ℕ, ◌+◌, ◌*◌, ◌<◌, length, slice_index}
use Rattle.band_core.specs.Places.{per_row}
use Rattle.band_core.specs.Values.{row_value}
use Rattle.band_pieces.proofs.rows.read_rows.Given as goal

abbrev pub invariant-loop-k : goal.invariant-loop-k
invariant-loop-k g l = record {
  end : l.k-end ≡ l.rows.count;
  seat : l.seat ≡ l.initial.seat;
  long : length l.out ≡ l.rows.count * per_row l.layout l.phase;
  done : (j o : ℕ) → j < l.k → o < per_row l.layout l.phase → slice_index (g.V.CellValue.numbers l.out) (j * per_row l.layout l.phase + o) ≡ row_value (g.C.CellSource.table_key l.source l.initial.seat).page.value l.phase (l.rows.first + j) o;
}
