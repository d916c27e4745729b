-- The loops of read_statements: the job of its objects, statement after statement.
use Rattle.std.proofs.Common.{◌≡◌, ◌≤◌}
use Rattle.job_reader.specs.Starts.{nothing_read}
use Rattle.job_reader.proofs.Reading.{read_on}
use Rattle.job_reader.proofs.reader.read_statements.Given as goal

-- what is left gives what all does
abbrev pub invariant-loop-place : goal.invariant-loop-place
invariant-loop-place l = record {
  same : read_on l.objects l.len l.state l.from l.place ≡ read_on l.objects l.len nothing_read 0 0;
  suffix : l.from ≤ l.place;
}
