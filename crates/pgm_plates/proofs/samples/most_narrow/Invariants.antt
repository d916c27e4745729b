-- How far the loops of `most_narrow` have come.
use Rattle.std.proofs.Common.{◌≤◌, ℕ, take}
use Rattle.std.specs.List.{All}
use Rattle.pgm_plates.proofs.samples.most_narrow.Given as goal

abbrev pub invariant-loop-byte : goal.invariant-loop-byte
invariant-loop-byte l = All (λ (s : ℕ). s ≤ l.most) (take l.byte-index l.bytes)
