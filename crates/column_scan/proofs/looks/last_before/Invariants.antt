-- The loops of last_before: the last row before `first` whose edge in the column decides.
use Rattle.std.proofs.Common.{◌≡◌, ◌+◌}
use Rattle.column_scan.specs.Sweep.{passes, last_below}
use Rattle.column_scan.proofs.looks.last_before.Given as goal

abbrev pub invariant-loop-r : goal.invariant-loop-r
invariant-loop-r g l = record { last : l.last ≡ last_below (passes l.marks l.x2) l.r; steps : l.steps ≡ l.initial.steps + l.r }
