-- The loops of put_tints: puts the new tints of sample x into the row.
use Rattle.std.proofs.Common.{◌≡◌, length}
use Rattle.row_values.specs.Quiet.{IsRowPut}
use Rattle.row_values.proofs.tint_rows.put_tints.Given as goal

abbrev pub invariant-loop-c : goal.invariant-loop-c
invariant-loop-c l = record { end : l.c-end ≡ length l.tints; out : IsRowPut l.page l.y l.x l.c l.out }
