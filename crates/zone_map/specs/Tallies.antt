-- Crossings of a row, counted from the right: how often a path passes right of a sample, upwards
-- and downwards.
use Rattle.std.specs.Prelude.{ℕ, ◌+◌, List, drop, sum, ℤ, ◌-ℤ◌, pos}

-- the crossings right of sample x, of a row's crossings counted by the samples left of them
abbrev pub past : List ℕ → ℕ → ℕ
past counts x = sum (drop (x + 1) counts)

-- how much more often a path passes right of sample x upwards than downwards
abbrev pub left : List ℕ → List ℕ → ℕ → ℤ
left ups downs x = pos (past ups x) -ℤ pos (past downs x)
