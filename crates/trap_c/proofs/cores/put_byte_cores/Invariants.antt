-- What holds each time round the loop of put_byte_cores.
use Rattle.trap_c.specs.Cores.{HaveCores}
use Rattle.trap_c.proofs.cores.put_byte_cores.Given as goal

abbrev pub invariant-loop-c : goal.invariant-loop-c
invariant-loop-c l = HaveCores l.layout l.core l.fn.planes l.initial.samples l.samples l.c
