-- The loops of push_lines: pushes lines in order, up to the first that finds the queue full, and
-- says how many it pushed.
use Rattle.std.proofs.Common.{◌≡◌, ◌≤◌, true, [], length, take}
use Rattle.crossbeam_queue.specs.Passes.{view, IsPassOf}
use Rattle.trap_pool.specs.Rule.{pass_view, whole}
use Rattle.trap_pool.proofs.pushing.push_lines.Given as goal

abbrev pub invariant-loop : goal.invariant-loop
invariant-loop g l = IsPassOf l.queue l.pass × (view l.pass ≡ pass_view whole true (take l.next l.lines) []) × (l.next ≤ length l.lines)
