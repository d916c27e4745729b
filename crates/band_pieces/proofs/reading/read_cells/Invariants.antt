-- The loops of read_cells: unpacks all values of whole cells.
use Rattle.std.proofs.Common.{◌≡◌, ℕ, ◌+◌, ◌*◌, ◌<◌, length, slice_index}
use Rattle.band_core.specs.Values.{value}
use Rattle.band_pieces.proofs.reading.read_cells.Given as goal

abbrev pub invariant-loop-o : goal.invariant-loop-o
invariant-loop-o g l = record {
  seat : l.seat ≡ l.initial.seat;
  long : length l.out ≡ length l.initial.out;
  here : (j : ℕ) → j < l.o * g.row.LANES → slice_index (g.V.CellValue.numbers l.out) (l.cells.place + j) ≡ value (g.C.CellSource.table_key l.source l.initial.seat).page.value l.layout l.cells.piece (l.cells.cell * g.row.LANES + j);
  kept : (k : ℕ) → k < l.cells.place → slice_index (g.V.CellValue.numbers l.out) k ≡ slice_index (g.V.CellValue.numbers l.initial.out) k;
}
