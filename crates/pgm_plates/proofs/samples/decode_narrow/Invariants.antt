-- How far the loops of `decode_narrow` have come.
use Rattle.std.proofs.Common.{◌≡◌, take}
use Rattle.pgm_plates.proofs.samples.decode_narrow.Given as goal

abbrev pub invariant-loop-at : goal.invariant-loop-at
invariant-loop-at l = take l.at l.samples ≡ take l.at l.bytes
