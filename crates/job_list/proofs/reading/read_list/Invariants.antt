-- The loops of read_list: the jobs of a list.
use Rattle.std.proofs.Common.{◌≡◌, length}
use Rattle.job_list.specs.Apart.{Stands}
use Rattle.job_list.proofs.reading.read_list.Given as goal

abbrev pub invariant-loop-number : goal.invariant-loop-number
invariant-loop-number l = record { stands : Stands l.bytes l.lines l.rest; count : length l.lines ≡ l.number }
