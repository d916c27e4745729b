-- The loops of take_rows: counts in these rows, out of the cells of a table whose pieces are done.
use Rattle.std.proofs.Common.{◌≡◌, ◌+◌}
use Rattle.trap_engine.specs.Memory.{KeepsTally}
use Rattle.trap_engine.specs.Taking.{HasCounted}
use Rattle.trap_engine.proofs.tally.take_rows.Given as goal

abbrev pub invariant-loop-k : goal.invariant-loop-k
invariant-loop-k g l = record {
  end : l.k-end ≡ l.rows.count;
  seat : l.seat ≡ l.initial.seat;
  workspace : KeepsTally l.initial.tally l.tally;
  tally : HasCounted l.page l.rows.first (l.rows.first + l.k) l.tally;
}
