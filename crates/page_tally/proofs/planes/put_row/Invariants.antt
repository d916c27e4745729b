-- The loops of put_row: puts the new tints of row y into the planes.
use Rattle.std.proofs.Common.{◌≡◌, ◌*◌}
use Rattle.page_model.specs.Page.{plates, width}
use Rattle.page_tally.specs.Standing.{AreTrapping}
use Rattle.page_tally.proofs.planes.put_row.Given as goal

abbrev pub invariant-loop-c : goal.invariant-loop-c
invariant-loop-c l = record { end : l.c-end ≡ plates l.page; planes : AreTrapping l.page l.planes (l.y * width l.page) (width l.page) l.c }
