-- How far the loops of `decode_wide` have come.
use Rattle.std.proofs.Common.{◌≡◌, take}
use Rattle.pgm_plates.specs.Readers.{wide_samples}
use Rattle.pgm_plates.proofs.samples.decode_wide.Given as goal

abbrev pub invariant-loop-at : goal.invariant-loop-at
invariant-loop-at l = take l.at l.samples ≡ take l.at (wide_samples l.bytes)
