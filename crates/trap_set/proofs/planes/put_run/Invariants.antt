-- The loops of put_run: puts the tints of a run on the samples that it covers.
use Rattle.std.proofs.Common.{[], ◌∷◌}
use Rattle.trap_set.specs.Reading.{run_in}
use Rattle.trap_set.proofs.PlaneLemmas.{PutSoFar}
use Rattle.trap_set.proofs.planes.put_run.Given as goal

abbrev pub invariant-loop-c : goal.invariant-loop-c
invariant-loop-c l = PutSoFar (run_in l.numbers ∷ []) l.c l.initial.planes l.planes
