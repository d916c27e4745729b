-- The loop of changed_in: how many pixels of the rows so far change.
use Rattle.std.proofs.Common.{◌≡◌, ◌*◌, ◌≤◌}
use Rattle.sheet_geometry.specs.Areas.{area_sum}
use Rattle.keep_sheets.specs.KeepSheets.{changes_at}
use Rattle.keep_sheets.proofs.core_counts.changed_in.Given as goal

abbrev pub invariant-loop-k : goal.invariant-loop-k
invariant-loop-k l = record {
  counted : l.changed ≡ area_sum (changes_at l.used l.c l.page) l.core.left l.core.top l.core.width l.k;
  few : l.changed ≤ l.core.width * l.k;
}
