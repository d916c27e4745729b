-- The loops of spans_of: the spans of a side, from its first sample to its last.
use Rattle.std.proofs.Common.{◌-◌, ◌≤◌}
use Rattle.sheet_geometry.specs.Spans.{AreSpans}
use Rattle.sheet_geometry.proofs.spans.spans_of.Given as goal

abbrev pub invariant-loop-done : goal.invariant-loop-done
invariant-loop-done l = record { inside : l.done ≤ l.ruler.side; spans : AreSpans l.ruler 0 l.spans.items l.done }

abbrev pub decreases-loop-done : goal.decreases-loop-done
decreases-loop-done l = l.ruler.side - l.done
