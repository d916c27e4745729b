-- How far the loops of `encode_wide` have come.
use Rattle.std.proofs.Common.{◌≡◌, ◌*◌, ◌/◌, ◌%◌, ◌∷◌, [], take}
use Rattle.std.specs.List.{flat_map}
use Rattle.pgm_plates.specs.Planes.{samples_in}
use Rattle.pgm_plates.proofs.writing.encode_wide.Given as goal

abbrev pub invariant-loop-at : goal.invariant-loop-at
invariant-loop-at l = take (2 * l.at) l.bytes ≡ flat_map (λ s. s / 256 ∷ s % 256 ∷ []) (samples_in l.image (take l.at l.values))
