-- What holds each time round the loop of look_above.
use Rattle.std.proofs.Common.{◌≡◌}
use Rattle.lists.specs.Words.{first_some}
use Rattle.trap_c.specs.Fit.{above_in}
use Rattle.trap_c.proofs.fit.look_above.Given as goal

abbrev pub invariant-loop-c : goal.invariant-loop-c
invariant-loop-c l = l.found ≡ first_some (above_in l.fn.planes) l.c
