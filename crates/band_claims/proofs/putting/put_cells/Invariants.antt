-- How far the loops of `put_cells` have come.
use Rattle.std.proofs.Common.{◌≡◌, ◌-◌, ◌≤◌}
use Rattle.band_claims.specs.Seating.{Seats}
use Rattle.band_claims.specs.Filled.{filled_to}
use Rattle.band_claims.proofs.putting.put_cells.Given as goal

abbrev pub invariant-loop-done : goal.invariant-loop-done
invariant-loop-done g l = record {
  within : l.done ≤ l.cells;
  pass : Seats l.shared l.pass;
  filled : l.pass.view ≡ filled_to l.done l.initial.pass.view;
}

abbrev pub decreases-loop-done : goal.decreases-loop-done
decreases-loop-done g l = l.cells - l.done
