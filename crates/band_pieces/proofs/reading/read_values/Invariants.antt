-- The loops of read_values: unpacks values of a piece.
use Rattle.std.proofs.Common.{◌≡◌, ℕ, ◌+◌, ◌-◌, ◌<◌, ◌≤◌, length, slice_index}
use Rattle.band_core.specs.Values.{value}
use Rattle.band_pieces.proofs.reading.read_values.Given as goal

abbrev pub invariant-loop-done : goal.invariant-loop-done
invariant-loop-done g l = record {
  seat : l.seat ≡ l.initial.seat;
  long : length l.out ≡ length l.initial.out;
  within : l.done ≤ l.run.count;
  here : (j : ℕ) → j < l.done → slice_index (g.V.CellValue.numbers l.out) (l.run.place + j) ≡ value (g.C.CellSource.table_key l.source l.initial.seat).page.value l.layout l.run.piece (l.run.from + j);
  kept : (k : ℕ) → k < l.run.place → slice_index (g.V.CellValue.numbers l.out) k ≡ slice_index (g.V.CellValue.numbers l.initial.out) k;
}

abbrev pub decreases-loop-done : goal.decreases-loop-done
decreases-loop-done g l = l.run.count - l.done
