-- How many cells the largest page has. No public clause rests on it.
use Rattle.std.specs.Prelude.{ℕ, ◌*◌, ◌==◌, if◌then◌else◌}

-- in a phase
abbrev pub most_cells : ℕ → ℕ
most_cells phase = if phase == 3 then 1431666688 else 90000000

-- and in the phases before one
abbrev pub most_before : ℕ → ℕ
most_before phase = if phase == 4 then 1701666688 else phase * 90000000
