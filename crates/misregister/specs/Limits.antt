-- How far off the register may be.
use Rattle.std.specs.Prelude.{ℕ}

-- samples that a plate may be off at most, each way
abbrev pub most_radius : ℕ
most_radius = 16
