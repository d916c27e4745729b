-- The loops of count_changes: how many of these samples of row y change.
use Rattle.std.proofs.Common.{◌≤◌, ◌≡◌}
use Rattle.page_model.specs.Counts.{sample_changes}
use Rattle.sheet_geometry.specs.Areas.{one_if}
use Rattle.sheet_engine.specs.Growth.{row_sum}
use Rattle.sheet_engine.proofs.tile_rows.count_changes.Given as goal

abbrev pub invariant-loop-k : goal.invariant-loop-k
invariant-loop-k l = record { count : l.count ≡ row_sum (λ p. one_if (sample_changes l.page p)) l.y l.left l.k; few : l.count ≤ l.k }
