-- The loops of cut_whole: cuts the values of a whole cell out of their number.
use Rattle.std.proofs.Common.{◌≡◌, ℕ, ◌*◌, ◌/◌, ◌^◌, ◌<◌, slice_index}
use Rattle.band_core.specs.Packing.{lane}
use Rattle.band_core.proofs.packing.cut_whole.Given as goal

abbrev pub invariant-loop-j : goal.invariant-loop-j
invariant-loop-j g l = record {
  base : l.base ≡ 2 ^ g.row.BITS;
  left : l.rest ≡ l.packed / 2 ^ (g.row.BITS * l.j);
  written : (j : ℕ) → j < l.j → slice_index (g.V.CellValue.numbers l.out) j ≡ lane g.row.BITS l.packed j;
}
