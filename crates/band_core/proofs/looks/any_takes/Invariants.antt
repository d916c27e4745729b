-- The loops of any_takes: whether a cell is one of a claimed piece.
use Rattle.std.proofs.Common.{◌≡◌, ◌+◌, nat_le, nat_lt, ◌&&◌}
use Rattle.std.specs.Prelude.{slice_index_or}
use Rattle.lists.specs.Words.{any_below}
use Rattle.band_core.specs.Places.{first_cell_of, cell_total, piece_count}
use Rattle.band_core.specs.declared.state.State.TheVariants.{Free}
use Rattle.band_core.specs.Boards.{state_claimed}
use Rattle.band_core.proofs.looks.any_takes.Given as goal

abbrev pub invariant-loop-i : goal.invariant-loop-i
invariant-loop-i l = record {
  end : l.i-end ≡ piece_count l.layout;
  any : l.any ≡ any_below (λ i. state_claimed (slice_index_or l.states i Free) && (nat_le (first_cell_of l.layout i) l.cell && nat_lt l.cell (first_cell_of l.layout i + cell_total l.layout i))) l.i;
}
