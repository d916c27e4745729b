-- The loops of first_above: the place of the first sample above the maxval among the whole samples
-- that these bytes spell.
use Rattle.std.proofs.Common.{take}
use Rattle.pgm_plates.specs.Readers.{Fit, samples_spelled}
use Rattle.pgm_plates.proofs.samples.first_above.Given as goal

abbrev pub invariant-loop-at : goal.invariant-loop-at
invariant-loop-at l = Fit l.maxval (take l.at (samples_spelled l.maxval l.bytes))
