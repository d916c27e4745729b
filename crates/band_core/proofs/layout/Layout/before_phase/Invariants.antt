-- The loops of Layout::before_phase: the cells of the phases before one.
use Rattle.std.proofs.Common.{◌≡◌, ◌≤◌, ◌*◌}
use Rattle.band_core.specs.Most.{most_before}
use Rattle.band_core.specs.Places.{first_cell_of}
use Rattle.band_core.proofs.layout.Layout.before_phase.Given as goal

abbrev pub invariant-loop-q : goal.invariant-loop-q
invariant-loop-q l = record {
  so_far : l.start ≡ first_cell_of l.self (l.q * l.self.bands.count);
  bound : l.start ≤ most_before l.q;
}
