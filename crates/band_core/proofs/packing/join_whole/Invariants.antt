-- The loops of join_whole: the values of a whole cell as one number.
use Rattle.std.proofs.Common.{◌≡◌, ◌^◌, ◌≤◌, length, drop}
use Rattle.band_core.specs.Packing.{packed}
use Rattle.band_core.proofs.packing.join_whole.Given as goal

abbrev pub invariant-loop-j : goal.invariant-loop-j
invariant-loop-j g l = record {
  within : l.j ≤ length l.values;
  base : l.base ≡ 2 ^ g.row.BITS;
  so_far : l.sum ≡ packed g.row.BITS (drop l.j (g.V.CellValue.numbers l.values));
}

abbrev pub decreases-loop-j : goal.decreases-loop-j
decreases-loop-j g l = l.j
