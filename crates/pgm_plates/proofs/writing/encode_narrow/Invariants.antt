-- How far the loops of `encode_narrow` have come.
use Rattle.std.proofs.Common.{◌≡◌, take}
use Rattle.pgm_plates.specs.Planes.{samples_in}
use Rattle.pgm_plates.proofs.writing.encode_narrow.Given as goal

abbrev pub invariant-loop-at : goal.invariant-loop-at
invariant-loop-at l = take l.at l.bytes ≡ samples_in l.image (take l.at l.values)
