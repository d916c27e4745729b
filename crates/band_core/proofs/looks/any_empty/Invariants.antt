-- The loops of any_empty: whether some cell of a piece is empty.
use Rattle.std.proofs.Common.{◌≡◌, ◌+◌, ◌==◌, slice_index}
use Rattle.lists.specs.Words.{any_below}
use Rattle.band_core.specs.Places.{first_cell_of, cell_total}
use Rattle.band_core.proofs.looks.any_empty.Given as goal

abbrev pub invariant-loop-o : goal.invariant-loop-o
invariant-loop-o l = record {
  end : l.o-end ≡ cell_total l.layout l.piece;
  any : l.any ≡ any_below (λ o. slice_index l.cells (first_cell_of l.layout l.piece + o) == 0) l.o;
}
