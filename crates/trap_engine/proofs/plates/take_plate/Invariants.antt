-- The loops of take_plate: takes plate c out of the cells of a table whose pieces are done, row by
-- row, and tells how many of its samples change.
use Rattle.std.proofs.Common.{◌≡◌, ◌*◌, ◌≤◌, length}
use Rattle.std.specs.Prelude.{vec_capacity}
use Rattle.lists.specs.Words.{count_below}
use Rattle.page_model.specs.Counts.{plate_changes}
use Rattle.page_model.specs.Page.{height, sample_at, samples, width}
use Rattle.trap_engine.specs.Taking.{HasTaken}
use Rattle.trap_engine.proofs.plates.take_plate.Given as goal

abbrev pub invariant-loop-y : goal.invariant-loop-y
invariant-loop-y g l = record {
  end : l.y-end ≡ height l.page;
  seat : l.seat ≡ l.initial.seat;
  row : length l.row ≡ width l.page;
  workspace : samples l.page ≤ vec_capacity l.tints;
  tints : HasTaken l.page l.c (l.y * width l.page) l.tints.items;
  changed : l.changed ≡ count_below (λ k. plate_changes l.page l.c (sample_at l.page k)) (l.y * width l.page);
}
