-- The loop of covered_in: how many pixels of the rows so far are covered.
use Rattle.std.proofs.Common.{◌≡◌, ◌*◌, ◌≤◌}
use Rattle.sheet_geometry.specs.Areas.{area_sum}
use Rattle.keep_sheets.specs.KeepSheets.{covers_at}
use Rattle.keep_sheets.proofs.core_counts.covered_in.Given as goal

abbrev pub invariant-loop-k : goal.invariant-loop-k
invariant-loop-k l = record {
  counted : l.covered ≡ area_sum (covers_at l.used l.page) l.core.left l.core.top l.core.width l.k;
  few : l.covered ≤ l.core.width * l.k;
}
