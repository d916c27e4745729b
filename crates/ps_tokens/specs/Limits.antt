-- How much a job may have of what it is written with.
use Rattle.std.specs.Prelude.{ℕ}

-- how many bytes a job may have
abbrev pub longest_job : ℕ
longest_job = 1048576

-- how many brackets may be open at a place
abbrev pub deepest : ℕ
deepest = 16

-- how large the part of a number before its point may be
abbrev pub largest_whole : ℕ
largest_whole = 1000000
