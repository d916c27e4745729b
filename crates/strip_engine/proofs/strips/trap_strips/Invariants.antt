-- The loops of trap_strips: traps the page, strip by strip, and counts its rows if that is asked.
use Rattle.std.proofs.Common.{◌≡◌, ◌≤◌, ◌-◌, length}
use Rattle.page_model.specs.Page.{height}
use Rattle.strip_engine.specs.StripBuffers.{AreBuffers}
use Rattle.strip_engine.specs.Taken.{IsTaken}
use Rattle.strip_engine.proofs.strips.trap_strips.Given as goal

abbrev pub invariant-loop-first : goal.invariant-loop-first
invariant-loop-first l = record {
  inside : l.first ≤ height l.page;
  codes : length l.codes ≡ length l.initial.codes;
  buffers : AreBuffers l.page l.buffers;
  workspace : l.workspace ≡ l.initial.workspace;
  outcome : IsTaken l.page l.first l.counted l.outcome;
}

abbrev pub decreases-loop-first : goal.decreases-loop-first
decreases-loop-first l = height l.page - l.first
