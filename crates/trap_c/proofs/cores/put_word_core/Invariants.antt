-- What holds each time round the loop of put_word_core.
use Rattle.trap_c.specs.Cores.{HasCoreTo}
use Rattle.trap_c.proofs.cores.put_word_core.Given as goal

abbrev pub invariant-loop-y : goal.invariant-loop-y
invariant-loop-y l = HasCoreTo l.layout l.core l.tints l.initial.samples l.samples l.fn.c l.y
