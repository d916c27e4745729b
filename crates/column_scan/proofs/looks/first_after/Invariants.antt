-- The loops of first_after: the first row from `end` on whose edge in the column decides.
use Rattle.std.proofs.Common.{◌≡◌, ◌+◌, ◌-◌}
use Rattle.page_model.specs.Marks.{stored_rows}
use Rattle.column_scan.specs.Sweep.{passes, first_before}
use Rattle.column_scan.proofs.looks.first_after.Given as goal

abbrev pub invariant-loop-k : goal.invariant-loop-k
invariant-loop-k g l = record { end : l.k-end ≡ stored_rows l.marks - l.end; next : l.next ≡ first_before (passes l.marks l.x2) (stored_rows l.marks) l.k; steps : l.steps ≡ l.initial.steps + l.k }
