-- The loops of take_in: puts in all that was made.
use Rattle.trap_pool.specs.Taking.{AllSettled}
use Rattle.trap_pool.proofs.taking.take_in.Given as goal

abbrev pub invariant-loop-slot : goal.invariant-loop-slot
invariant-loop-slot g l = AllSettled l.fn.gathered.items l.gathered.items
