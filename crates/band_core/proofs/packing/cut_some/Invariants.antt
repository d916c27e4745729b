-- How far the loops of `cut_some` have come.
use Rattle.std.proofs.Common.{◌≡◌, ℕ, ◌*◌, ◌/◌, ◌^◌, ◌<◌, slice_index}
use Rattle.band_core.specs.Packing.{lane}
use Rattle.band_core.proofs.packing.cut_some.Given as goal

abbrev pub invariant-loop-j : goal.invariant-loop-j
invariant-loop-j g l = record {
  base : l.base ≡ 2 ^ l.bits;
  left : l.rest ≡ l.packed / 2 ^ (l.bits * l.j);
  written : (j : ℕ) → j < l.j → slice_index (g.V.CellValue.numbers l.out) j ≡ lane l.bits l.packed j;
}
