-- The loops of run_length: how many samples the run has that begins at a sample.
use Rattle.std.proofs.Common.{◌≡◌, ◌+◌, ◌-◌, suc}
use Rattle.trap_set.specs.Runs.{run_on}
use Rattle.trap_set.proofs.samples.run_length.Given as goal

abbrev pub invariant-loop-i : goal.invariant-loop-i
invariant-loop-i l = run_on l.old l.new l.y (suc l.x) (l.width - suc l.x) ≡ l.i - suc l.x + run_on l.old l.new l.y l.i (l.width - l.i)
