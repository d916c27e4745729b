-- The statuses that a program ends with, by name.
use Rattle.std.specs.Prelude.{ℕ}

-- the work is done
abbrev pub done : ℕ
done = 0

-- a word of the command is not UTF-8
abbrev pub not_text : ℕ
not_text = 1

-- the words are no command
abbrev pub usage : ℕ
usage = 2

-- the job has a fault, or lacks the details of a plate's colorant
abbrev pub job_refused : ℕ
job_refused = 3

-- a plate's file has a fault, or the plates are no page
abbrev pub page_refused : ℕ
page_refused = 4

-- a file could not be read
abbrev pub not_read : ℕ
not_read = 5

-- a file could not be written, or a result could not be printed
abbrev pub not_written : ℕ
not_written = 6

-- there was no memory
abbrev pub out_of_memory : ℕ
out_of_memory = 7

-- a trap set has a bad line, or is for other plates
abbrev pub set_refused : ℕ
set_refused = 8

-- some lines of a list of jobs were refused, and the others are done
abbrev pub lines_refused : ℕ
lines_refused = 9
