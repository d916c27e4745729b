-- job_of_bytes_is_spelled: a job is that of bytes exactly where they spell it.
use Rattle.job_laws.proofs.Ends.{job-spelled, spelled-job}
use Rattle.job_laws.proofs.laws.job_of_bytes_is_spelled.Goals as goal

pub returns-clause-spelled : goal.returns-clause-spelled
returns-clause-spelled c = job-spelled

pub returns-clause-read : goal.returns-clause-read
returns-clause-read c = spelled-job
