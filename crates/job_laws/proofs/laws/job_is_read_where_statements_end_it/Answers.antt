-- job_is_read_where_statements_end_it: statements give a job exactly where they end one.
use Rattle.job_laws.proofs.Ends.{read-ends, ends-read}
use Rattle.job_laws.proofs.laws.job_is_read_where_statements_end_it.Goals as goal

pub returns-clause-ends : goal.returns-clause-ends
returns-clause-ends c = read-ends

pub returns-clause-read : goal.returns-clause-read
returns-clause-read c = ends-read
