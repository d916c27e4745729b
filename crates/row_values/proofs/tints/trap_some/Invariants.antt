-- The loops of trap_some: traps so many samples of a row from x on.
use Rattle.std.proofs.Common.{◌≡◌, ◌≤◌, ◌+◌, length}
use Rattle.page_model.specs.Page.{plates}
use Rattle.row_values.specs.Quiet.{IsRowTo}
use Rattle.row_values.proofs.tints.trap_some.Given as goal

abbrev pub invariant-loop-k : goal.invariant-loop-k
invariant-loop-k l = record { end : l.k-end ≡ l.x + l.count; from : l.x ≤ l.k; tints : length l.tints ≡ plates l.page; out : IsRowTo l.page l.row.y l.k l.out }
