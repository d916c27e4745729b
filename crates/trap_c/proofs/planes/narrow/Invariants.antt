-- What holds each time round the loop of narrow.
use Rattle.std.proofs.Common.{◌≡◌, take}
use Rattle.trap_c.proofs.planes.narrow.Given as goal

abbrev pub invariant-loop-at : goal.invariant-loop-at
invariant-loop-at l = take l.at l.bytes ≡ take l.at l.tints
