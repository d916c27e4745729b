-- What holds each time round the loop of widen.
use Rattle.std.proofs.Common.{◌≡◌, take}
use Rattle.trap_c.proofs.source.widen.Given as goal

abbrev pub invariant-loop-at : goal.invariant-loop-at
invariant-loop-at l = take l.at l.tints ≡ take l.at l.bytes
