-- How far the loops of `most_wide` have come.
use Rattle.std.proofs.Common.{◌≤◌, ℕ, take}
use Rattle.std.specs.List.{All}
use Rattle.pgm_plates.specs.Readers.{wide_samples}
use Rattle.pgm_plates.proofs.samples.most_wide.Given as goal

abbrev pub invariant-loop-at : goal.invariant-loop-at
invariant-loop-at l = All (λ (s : ℕ). s ≤ l.most) (take l.at (wide_samples l.bytes))
