-- The loops of trap_rows: traps these rows, whose column answers these are.
use Rattle.std.proofs.Common.{◌≡◌, ◌+◌}
use Rattle.strip_engine.specs.StripBuffers.{AreBuffers}
use Rattle.strip_engine.specs.Taken.{IsTaken}
use Rattle.strip_engine.proofs.strips.trap_rows.Given as goal

abbrev pub invariant-loop-k : goal.invariant-loop-k
invariant-loop-k l = record {
  end : l.k-end ≡ l.rows.count;
  buffers : AreBuffers l.page l.buffers;
  workspace : l.workspace ≡ l.initial.workspace;
  outcome : IsTaken l.page (l.rows.first + l.k) l.counted l.outcome;
}
